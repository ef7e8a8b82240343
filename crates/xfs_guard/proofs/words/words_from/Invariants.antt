use Rattle.std.proofs.Common.{◌≡◌, ℕ, ◌+◌, ◌<◌, length}
use Rattle.std.specs.Prelude.{slice_index}
use Rattle.xfs_guard.specs.Word.{before_issue, issue_word}
use Rattle.xfs_guard.proofs.words.words_from.Given as goal

-- the words before i stand, and the generator is before the next
abbrev pub invariant-loop-i : goal.invariant-loop-i
invariant-loop-i l = record {
  long : length l.words ≡ 32;
  before : l.rng ≡ before_issue l.fn.seed (l.fn.first + l.i);
  filled : (j : ℕ) → j < l.i → slice_index l.words j ≡ issue_word l.fn.seed (l.fn.first + j);
}
