use Rattle.std.proofs.Common.{drop}
use Rattle.xfs_guard.specs.Agrees.{RisesFrom}
use Rattle.xfs_audit.proofs.agreement.rises.Given as goal

-- the whole list rises where the rest does
abbrev pub invariant-loop-entry : goal.invariant-loop-entry
invariant-loop-entry l = record {
  on : RisesFrom l.low (drop l.entry-index l.motions) → RisesFrom 0 l.motions;
  back : RisesFrom 0 l.motions → RisesFrom l.low (drop l.entry-index l.motions);
}
