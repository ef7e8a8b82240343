use Rattle.std.proofs.Common.{◌≡◌, ℕ, ◌+◌, ◌<◌, ◌≤◌, slice_index}
use Rattle.xfs_base.specs.Counts.{at}
use Rattle.xfs_mech.proofs.counts.minus.Given as goal

abbrev pub invariant-loop-i : goal.invariant-loop-i
invariant-loop-i l = record {
  done : (u : ℕ) → u < l.i → slice_index l.rest u + at l.b u ≡ at l.a u;
  left : (u : ℕ) → l.i ≤ u → slice_index l.rest u ≡ at l.a u;
}
