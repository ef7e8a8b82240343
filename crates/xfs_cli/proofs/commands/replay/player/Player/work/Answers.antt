use Rattle.std.proofs.Common.{refl}
use Rattle.std.proofs.lemmas.Result.{IfOk-weaker}
use Rattle.xfs_script.proofs.LastLaws.{on-err}
use Rattle.xfs_load.proofs.RestLaws.{part-one}
use Rattle.xfs_cli.proofs.VerbLaws.{tells-event}
use Rattle.xfs_cli.proofs.commands.replay.player.Player.work.Goals as goal

pub returns-in_err-work-clause-memory : goal.returns-in_err-work-clause-memory
returns-in_err-work-clause-memory g c = on-err _ _ (part-one _ _ _ _ c.work.ensures.step)

pub returns-in-Did-clause-answer : goal.returns-in-Did-clause-answer
returns-in-Did-clause-answer g c =
    IfOk-weaker c.line.result _ _ (λ text told. tells-event _ _ _ _ _ _ _ _ text.items refl (rw (c.in_ok-work.was, c.in-Did.is) at c.work.ensures.step) refl refl told) c.line.ensures

pub returns-in-Did-clause-memory : goal.returns-in-Did-clause-memory
returns-in-Did-clause-memory g c = on-err _ _ (part-one _ _ _ _ c.work.ensures.step)

pub returns-in-Idle-clause-answer : goal.returns-in-Idle-clause-answer
returns-in-Idle-clause-answer g c =
    IfOk-weaker c.line-in-Idle.result _ _ (λ text told. tells-event _ _ _ _ _ _ _ _ text.items refl (rw (c.in_ok-work.was, c.in-Idle.is) at c.work.ensures.step) refl refl told) c.line-in-Idle.ensures

pub returns-in-Idle-clause-memory : goal.returns-in-Idle-clause-memory
returns-in-Idle-clause-memory g c = on-err _ _ (part-one _ _ _ _ c.work.ensures.step)
