use Rattle.std.proofs.Common.{◌≡◌, ℕ, ◌+◌, ◌^◌, ◌<◌, ◌≤◌, length, slice_index}
use Rattle.xfs_base.specs.Counts.{at}
use Rattle.xfs_audit.proofs.places.plus.Given as goal

abbrev pub invariant-loop-unit : goal.invariant-loop-unit
invariant-loop-unit l = record {
  long : length l.sums ≡ 8;
  done : (u : ℕ) → u < l.unit → slice_index l.sums u ≡ slice_index l.fn.sums u + at l.counts u;
  left : (u : ℕ) → l.unit ≤ u → slice_index l.sums u ≡ slice_index l.fn.sums u;
  bound : (u : ℕ) → slice_index l.sums u < slice_index l.fn.sums u + 2 ^ 32;
}
