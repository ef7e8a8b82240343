use Rattle.std.proofs.Common.{◌≡◌, ℕ, List, ◌+◌, ◌<◌, ◌≤◌, length, Some}
use Rattle.std.specs.Prelude.{slice_get, slice_index}
use Rattle.xfs_base.specs.Money.{value}
use Rattle.xfs_guard.proofs.ledger.sums_with.Given as goal

-- the sums before i have the notes on top, and the others are as they were
abbrev pub invariant-loop-i : goal.invariant-loop-i
invariant-loop-i l = record {
  long : length l.sums ≡ 9;
  new : (j : ℕ) (a : List ℕ × ℕ) → slice_get l.amounts j ≡ Some a → j < l.i → slice_index l.sums j ≡ slice_index l.presented j + value l.units l.moved a.0;
  old : (j : ℕ) → l.i ≤ j → slice_index l.sums j ≡ slice_index l.presented j;
}
