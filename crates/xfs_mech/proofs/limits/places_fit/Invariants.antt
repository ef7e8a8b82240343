use Rattle.std.proofs.Common.{◌≡◌, ℕ, ◌<◌, ◌≤◌, length, slice_index}
use Rattle.xfs_base.specs.Counts.{at}
use Rattle.xfs_mech.proofs.limits.places_fit.Given as goal

abbrev pub invariant-loop-unit : goal.invariant-loop-unit
invariant-loop-unit l = record {
  notes : (u : ℕ) → u < l.unit → slice_index l.totals u ≤ 4000000000;
  most : (u : ℕ) → u < l.unit → at l.places.units u ≤ 10000;
  past : (u : ℕ) → u < l.unit → length l.units ≤ u → slice_index l.totals u ≡ 0;
}
