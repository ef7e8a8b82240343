use Rattle.std.proofs.Common.{◌≡◌, ℕ, ◌+◌, ◌^◌, ◌<◌, ◌≤◌, length, slice_index}
use Rattle.xfs_base.specs.Counts.{at}
use Rattle.xfs_mech.proofs.limits.add_counts.Given as goal

abbrev pub invariant-loop-unit : goal.invariant-loop-unit
invariant-loop-unit l = record {
  long : length l.totals ≡ 8;
  done : (u : ℕ) → u < l.unit → slice_index l.totals u ≡ slice_index l.fn.totals u + at l.counts u;
  left : (u : ℕ) → l.unit ≤ u → slice_index l.totals u ≡ slice_index l.fn.totals u;
  bound : (u : ℕ) → slice_index l.totals u < slice_index l.fn.totals u + 2 ^ 32;
}
