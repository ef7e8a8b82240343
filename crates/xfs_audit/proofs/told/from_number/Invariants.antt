use Rattle.std.proofs.Common.{drop}
use Rattle.xfs_guard.specs.Agrees.{RisesFrom}
use Rattle.xfs_audit.specs.Told.{IsEndFrom}
use Rattle.xfs_audit.proofs.told.from_number.Given as goal

-- the rest has all that is wanted
abbrev pub invariant-loop-i : goal.invariant-loop-i
invariant-loop-i l = record {
  end : IsEndFrom l.number l.motions (drop l.i l.motions);
  rises : RisesFrom 0 (drop l.i l.motions);
}
