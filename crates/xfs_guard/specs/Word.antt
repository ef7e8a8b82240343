-- The word that a seed gives for an issue.
use Rattle.std.specs.Prelude.{◌≡◌, ℕ, ◌+◌, ◌*◌, ◌^◌, ◌<◌, List, slice_index}
use Rattle.rand_chacha.specs.ChaCha.{ChaCha, word_at, key_of}

-- the word of issue n: the ChaCha20 words of the seed at the places 2n (its high half) and 2n + 1 of stream 0
unfoldable pub issue_word : List ℕ → ℕ → ℕ
issue_word seed n = word_at 10 (key_of seed) 0 (2 * n) * 2 ^ 32 + word_at 10 (key_of seed) 0 (2 * n + 1)

-- the generator of a seed before the word of issue n
abbrev pub before_issue : List ℕ → ℕ → ChaCha
before_issue seed n = record { key = key_of seed; stream = 0; word_pos = 2 * n }

-- the words of 32 issues from one on
abbrev pub AreWords : List ℕ → ℕ → List ℕ → Type 0
AreWords seed first words = (i : ℕ) → i < 32 → slice_index words i ≡ issue_word seed (first + i)
