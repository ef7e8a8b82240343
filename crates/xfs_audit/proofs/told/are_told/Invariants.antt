use Rattle.xfs_guard.specs.Agrees.{RisesFrom}
use Rattle.xfs_audit.specs.Told.{IsMovedAsDone, IsEndFrom}
use Rattle.xfs_audit.proofs.told.are_told.Given as goal

-- the orders before this place have their motions, and the rest has those of the others
abbrev pub invariant-loop-place : goal.invariant-loop-place
invariant-loop-place l = record {
  told : IsMovedAsDone l.records l.motions l.place;
  end : IsEndFrom l.place l.motions l.rest;
  rises : RisesFrom 0 l.rest;
}
