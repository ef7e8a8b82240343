use Rattle.std.proofs.Common.{◌≡◌, ℕ, ◌-◌, ◌≤◌, length}
use Rattle.xfs_base.specs.Counts.{at}
use Rattle.xfs_mix.specs.Mix.{IsTable}
use Rattle.xfs_mix.proofs.mix.add_unit.Given as goal

abbrev pub invariant-loop-limits : goal.invariant-loop-limits
invariant-loop-limits l = record {
  table : IsTable l.kinds l.limits l.currency l.table;
  same : length l.table ≡ length l.initial.table;
  eight : length l.limits.0 ≡ 8;
  low : at l.limits l.u ≤ l.count;
  others : (w : ℕ) → (w ≡ l.u → ⊥) → at l.limits w ≡ at l.initial.limits w;
}

abbrev pub decreases-loop-limits : goal.decreases-loop-limits
decreases-loop-limits l = l.count - at l.limits l.u
