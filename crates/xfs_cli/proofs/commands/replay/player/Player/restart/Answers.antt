use Rattle.std.proofs.Common.{ap, refl}
use Rattle.xfs_cli.specs.Replay.States.{played}
use Rattle.xfs_load.proofs.RestLaws.{part-one}
use Rattle.xfs_cli.proofs.MachineLaws.{machine-refused}
use Rattle.xfs_cli.proofs.VerbLaws.{tells-event}
use Rattle.xfs_cli.proofs.commands.replay.player.Player.restart.Goals as goal

pub returns-in_err-reboot-clause-unbooted : goal.returns-in_err-reboot-clause-unbooted
returns-in_err-reboot-clause-unbooted g c =
    let e = c.in_err-reboot.ensures in
    machine-refused c.from_residual.result c.in_err-reboot.field-0.0 c.args.self.now.machine.state.seen c.reboot.new.self.state.seen c.args.self.now.last c.from_residual.ensures.1 e.cause

pub returns-in_err-line-clause-memory : goal.returns-in_err-line-clause-memory
returns-in_err-line-clause-memory g c = λ is. part-one _ _ _ _ c.in_ok-reboot.ensures.ok

pub returns-clause-answer : goal.returns-clause-answer
returns-clause-answer g c =
    let s = played c.args.self.now in
    tells-event s _ _ _ _ _ _ _ _ refl c.in_ok-reboot.ensures.ok refl (ap (λ clients. record s { machine = c.reboot.new.self.state; clients = clients }) c.clear.ensures) c.in_ok-line.ensures
