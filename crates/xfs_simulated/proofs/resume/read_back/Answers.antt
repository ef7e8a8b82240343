use Rattle.xfs_simulated.proofs.ResumedLaws.{tells-mounted, tells-refused}
use Rattle.xfs_simulated.proofs.resume.read_back.Goals as goal

pub returns-in_ok-told-in-Ok : goal.returns-in_ok-told-in-Ok
returns-in_ok-told-in-Ok g c = tells-mounted _ _ _ _ _ _ _ c.in-Ok.ensures.ok.records c.in-Ok.ensures.ok.base (rw (← c.records.ensures, ← c.base.ensures.base) c.in_ok-told-in-Ok.ensures)

pub returns-in_ok-tell_none-in-Err : goal.returns-in_ok-tell_none-in-Err
returns-in_ok-tell_none-in-Err g c = tells-refused _ _ _ c.in-Err.field-0.why _ _ c.in_ok-tell_none-in-Err.ensures c.in-Err.ensures.not_journal c.in-Err.ensures.disk
