use Rattle.xfs_server.proofs.RoundLaws.{halts_closing, halts_unsensed, halts_work, round_whole}
use Rattle.xfs_server.proofs.worker.make_round.Goals as goal

pub returns-then-closing-clause-err : goal.returns-then-closing-clause-err
returns-then-closing-clause-err g c = halts_closing _ _ _ _ c.if-closing.ensures

pub returns-in-Err-clause-err : goal.returns-in-Err-clause-err
returns-in-Err-clause-err g c = halts_unsensed _ _ _ _ _ _ _ c.if-closing.ensures c.in-Err.ensures.err

pub returns-in-Ok-Idle-clause-ok : goal.returns-in-Ok-Idle-clause-ok
returns-in-Ok-Idle-clause-ok g c = round_whole _ _ _ _ _ _ _ _ c.if-closing.ensures c.in-Ok.ensures.ok c.turn.ensures

pub returns-in-Ok-Did-clause-ok : goal.returns-in-Ok-Did-clause-ok
returns-in-Ok-Did-clause-ok g c = round_whole _ _ _ _ _ _ _ _ c.if-closing.ensures c.in-Ok.ensures.ok c.turn.ensures

pub returns-in-Err-turn-clause-err : goal.returns-in-Err-turn-clause-err
returns-in-Err-turn-clause-err g c = halts_work _ _ _ _ _ _ _ _ c.if-closing.ensures c.in-Ok.ensures.ok c.turn.ensures
