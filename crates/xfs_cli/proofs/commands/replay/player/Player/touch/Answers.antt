use Rattle.std.proofs.Common.{refl}
use Rattle.std.proofs.lemmas.Result.{IfOk-weaker}
use Rattle.xfs_cli.specs.Replay.States.{played}
use Rattle.xfs_script.proofs.LastLaws.{on-err}
use Rattle.xfs_load.proofs.RestLaws.{part-one}
use Rattle.xfs_cli.proofs.VerbLaws.{tells-touch}
use Rattle.xfs_cli.proofs.commands.replay.player.Player.touch.Goals as goal

pub returns-in_err-counts-in-Taken-clause-memory : goal.returns-in_err-counts-in-Taken-clause-memory
returns-in_err-counts-in-Taken-clause-memory g c = on-err _ _ (part-one _ _ _ _ c.touch.ensures.step)

pub returns-in_ok-counts-in-Taken-clause-answer : goal.returns-in_ok-counts-in-Taken-clause-answer
returns-in_ok-counts-in-Taken-clause-answer g c =
    IfOk-weaker c.line.result _ _ (λ text told. tells-touch (played c.args.self.now) _ _ _ _ text.items (rw (c.in_ok-counts.was, c.in-Taken.is) at c.touch.ensures.step) refl told) (rw (c.deref.ensures.value, c.in_ok-counts-in-Taken.ensures) at c.line.ensures)

pub returns-in_ok-counts-in-Taken-clause-memory : goal.returns-in_ok-counts-in-Taken-clause-memory
returns-in_ok-counts-in-Taken-clause-memory g c = on-err _ _ (part-one _ _ _ _ c.touch.ensures.step)

pub returns-in-Fault-clause-answer : goal.returns-in-Fault-clause-answer
returns-in-Fault-clause-answer g c =
    IfOk-weaker c.line-in-Fault.result _ _ (λ text told. tells-touch (played c.args.self.now) _ _ _ _ text.items (rw (c.in_ok-counts.was, c.in-Fault.is) at c.touch.ensures.step) refl told) c.line-in-Fault.ensures

pub returns-in-Fault-clause-memory : goal.returns-in-Fault-clause-memory
returns-in-Fault-clause-memory g c = on-err _ _ (part-one _ _ _ _ c.touch.ensures.step)

pub returns-in-Closed-clause-answer : goal.returns-in-Closed-clause-answer
returns-in-Closed-clause-answer g c =
    IfOk-weaker c.line-in-Closed.result _ _ (λ text told. tells-touch (played c.args.self.now) _ _ _ _ text.items (rw (c.in_ok-counts.was, c.in-Closed.is) at c.touch.ensures.step) refl told) c.line-in-Closed.ensures

pub returns-in-Closed-clause-memory : goal.returns-in-Closed-clause-memory
returns-in-Closed-clause-memory g c = on-err _ _ (part-one _ _ _ _ c.touch.ensures.step)

pub returns-in-Other-clause-answer : goal.returns-in-Other-clause-answer
returns-in-Other-clause-answer g c = tells-touch (played c.args.self.now) _ _ _ _ _ (rw (c.in_ok-counts.was, c.in-Other.is) at c.touch.ensures.step) refl c.new.ensures.items
