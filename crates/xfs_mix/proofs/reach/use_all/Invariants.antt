use Rattle.std.proofs.Common.{◌≡◌, ℕ, ◌≤◌, ◌<◌, length}
use Rattle.xfs_base.specs.Counts.{at}
use Rattle.xfs_mix.specs.Mix.{usable}
use Rattle.xfs_mix.specs.Reach.{IsReachTable}
use Rattle.xfs_mix.proofs.reach.use_all.Given as goal

abbrev pub invariant-loop-u : goal.invariant-loop-u
invariant-loop-u l = record {
  table : IsReachTable l.kinds l.limits l.currency l.used;
  same : length l.used ≡ length l.initial.used;
  eight : length l.limits.0 ≡ 8;
  done : (w : ℕ) → w < l.u → at l.limits w ≡ usable l.kinds l.have l.currency w;
  left : (w : ℕ) → l.u ≤ w → at l.limits w ≡ 0;
}
