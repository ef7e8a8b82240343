use Rattle.std.proofs.Common.{◌≡◌, ℕ, ◌-◌, ◌<◌, ◌≤◌, slice_index, length, sum, take}
use Rattle.xfs_mech.specs.Faults.{first_notes}
use Rattle.xfs_mech.proofs.counts.front.Given as goal

abbrev pub invariant-loop-i : goal.invariant-loop-i
invariant-loop-i l = record {
  long : length l.first ≡ 8;
  left : l.left ≡ l.many - sum (take l.i l.counts.0);
  done : (u : ℕ) → u < l.i → slice_index l.first u ≡ first_notes l.counts l.many u;
  rest : (u : ℕ) → l.i ≤ u → slice_index l.first u ≡ 0;
}
