use Rattle.std.proofs.Common.{◌≡◌, length}
use Rattle.xfs_mix.specs.Mix.{with_more}
use Rattle.xfs_mix.specs.Reach.{IsUsedTo}
use Rattle.xfs_mix.proofs.reach.use_unit.Given as goal

abbrev pub invariant-loop-a : goal.invariant-loop-a
invariant-loop-a l = (length l.used ≡ length l.initial.used) × IsUsedTo l.kinds l.fn.currency l.u l.limits (with_more l.limits l.u l.count) l.a l.used
