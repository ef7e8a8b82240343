use Rattle.std.proofs.Common.{◌≡◌, ℕ, ◌+◌, ◌<◌, ◌≤◌, slice_index, length}
use Rattle.xfs_base.specs.Counts.{at}
use Rattle.xfs_mech.proofs.counts.plus.Given as goal

abbrev pub invariant-loop-i : goal.invariant-loop-i
invariant-loop-i l = record {
  long : length l.sum ≡ 8;
  done : (u : ℕ) → u < l.i → slice_index l.sum u ≡ at l.a u + at l.b u;
  left : (u : ℕ) → l.i ≤ u → slice_index l.sum u ≡ at l.a u;
}
