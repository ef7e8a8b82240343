use Rattle.xfs_server.proofs.Turns.{heard_quiet, ends_closed, ends_failed, ends_unheard, ends_unposted}
use Rattle.xfs_server.proofs.session.hear.Goals as goal

pub returns-in-Quiet-clause-ok : goal.returns-in-Quiet-clause-ok
returns-in-Quiet-clause-ok g c = heard_quiet _ _ _ c.in-Quiet.ensures.log

pub returns-in-Closed-clause-err : goal.returns-in-Closed-clause-err
returns-in-Closed-clause-err g c = ends_closed _ _ _ c.in-Closed.ensures.log c.in-Closed.ensures.next

pub returns-in-Failed-clause-err : goal.returns-in-Failed-clause-err
returns-in-Failed-clause-err g c = ends_failed _ _ _ c.in-Failed.ensures.log

pub returns-in-Memory-clause-err : goal.returns-in-Memory-clause-err
returns-in-Memory-clause-err g c = ends_unheard _ _ _ c.in-Memory.ensures.log

pub returns-clause-err : goal.returns-clause-err
returns-clause-err g c = ends_unposted _ _ _ _ _ c.in-Err.field-0 c.in-Text.ensures.log c.in-Text.ensures.next c.in-Err.ensures
