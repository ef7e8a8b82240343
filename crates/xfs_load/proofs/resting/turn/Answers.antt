use Rattle.xfs_guard.proofs.KeepsLaws.{Proceeds-same}
use Rattle.xfs_load.proofs.RestLaws.{on-err, part-one, turn-none, turn-did, turn-idle}
use Rattle.xfs_load.proofs.resting.turn.Goals as goal

pub returns-then-most-eq0-clause-turns : goal.returns-then-most-eq0-clause-turns
returns-then-most-eq0-clause-turns g c = turn-none _ _ _ _ c.if-most-eq0.true

pub returns-then-most-eq0-clause-proceeds : goal.returns-then-most-eq0-clause-proceeds
returns-then-most-eq0-clause-proceeds g c = Proceeds-same g.D.Disk _ g.met.D.Disk.only_now

pub returns-in_err-work-clause-memory : goal.returns-in_err-work-clause-memory
returns-in_err-work-clause-memory g c = on-err _ _ (part-one _ _ _ _ c.work.ensures.step)

pub returns-in-Did-clause-turns : goal.returns-in-Did-clause-turns
returns-in-Did-clause-turns g c = turn-did _ _ _ _ _ c.if-most-eq0.false (rw (c.in_ok-work.was, c.in-Did.is) at c.work.ensures.step)

pub returns-in-Idle-clause-turns : goal.returns-in-Idle-clause-turns
returns-in-Idle-clause-turns g c = turn-idle _ _ _ _ _ c.if-most-eq0.false (rw (c.in_ok-work.was, c.in-Idle.is) at c.work.ensures.step)
