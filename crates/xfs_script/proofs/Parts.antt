-- The parts of a text, each up to a comma, and those that are left.
use Rattle.std.proofs.Common.{◌≡◌, ℕ, ◌+◌, ◌==◌, List, [], ◌∷◌, length, take, drop, get_or, None, Some, subst, arith}
use Rattle.std.specs.Prelude.{MatchOption}
use Rattle.std.specs.Borrow.{Bor}
use Rattle.std.specs.List.{slice_split}
use Rattle.std.specs.declared.option.Option.{Option}
use Rattle.std.proofs.lemmas.Bool.{false_from_ne_true}
use Rattle.std.proofs.lemmas.List.{get_or_default}
use Rattle.std.proofs.lemmas.List.Splits.{slice_split_none, slice_split_first}
use Rattle.memchr.specs.Find.{IsFirstByte, is_byte}
use Rattle.xfs_token.proofs.AmountReading.{first_is}
use Rattle.xfs_script.specs.Fields.{parts}

pub split_at : (c : ℕ) (xs : List ℕ) (i : ℕ) → IsFirstByte (is_byte c) xs (Some i) → slice_split (λ b. b == c) xs ≡ take i xs ∷ slice_split (λ b. b == c) (drop (i + 1) xs)
split_at c xs i first =
    let e = first_is c xs i first in
    let high = first.0.high in
    let P : ℕ → Type 0 = λ n. slice_split (λ b. b == c) xs ≡ take n xs ∷ slice_split (λ b. b == c) (drop (n + 1) xs) in
    subst P e (slice_split_first (λ b. b == c) xs 0 (omega arith))

pub split_none : (c : ℕ) (xs : List ℕ) → IsFirstByte (is_byte c) xs None → slice_split (λ b. b == c) xs ≡ xs ∷ []
split_none c xs nowhere =
    slice_split_none (λ b. b == c) xs (λ k d within. (let at = get_or_default xs k d 0 within in rw at (false_from_ne_true (get_or xs k 0 == c) (nowhere k (omega arith) within))))

-- the texts that are left
abbrev pub parts_left : Option (Bor (List ℕ)) → List (List ℕ)
parts_left None = []
parts_left (Some text) = parts text.now

abbrev pub size_left : Option (Bor (List ℕ)) → ℕ
size_left None = 0
size_left (Some text) = length text.now + 1

pub cut_is : (text first : List ℕ) (behind : Option (Bor (List ℕ))) → MatchOption behind (parts text ≡ first ∷ []) (λ b. parts text ≡ first ∷ parts b.now) → parts text ≡ first ∷ parts_left behind
cut_is text first None h = h
cut_is text first (Some b) h = h
