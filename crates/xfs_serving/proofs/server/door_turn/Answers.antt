use Rattle.std.proofs.Common.{arith, refl}
use Rattle.xfs_serving.proofs.Takings.{failed, starved}
use Rattle.xfs_serving.proofs.server.door_turn.Goals as goal

pub returns-then-load-clause-err : goal.returns-then-load-clause-err
returns-then-load-clause-err g c = starved 0 _ _ (omega arith) refl

pub returns-in-Err-clause-err : goal.returns-in-Err-clause-err
returns-in-Err-clause-err g c = starved 1 _ _ (omega arith) c.in-Came.ensures

pub returns-in-Failed-clause-err : goal.returns-in-Failed-clause-err
returns-in-Failed-clause-err g c = failed _ _ c.in-Failed.ensures

pub returns-in-Memory-clause-err : goal.returns-in-Memory-clause-err
returns-in-Memory-clause-err g c = starved 0 _ _ (omega arith) c.in-Memory.ensures
