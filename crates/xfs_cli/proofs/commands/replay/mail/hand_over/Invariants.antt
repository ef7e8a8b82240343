use Rattle.std.proofs.Common.{◌≡◌, take}
use Rattle.xfs_machine.specs.MachineView.{guard_of}
use Rattle.xfs_cli.specs.Replay.Events.{HasMail}
use Rattle.xfs_cli.proofs.commands.replay.mail.hand_over.Given as goal

abbrev pub invariant-loop-client : goal.invariant-loop-client
invariant-loop-client g l = record {
  mail : HasMail (take l.client-index l.clients) l.fn.machine.state l.fn.text.items l.text.items l.machine.state;
  guard : guard_of l.machine ≡ guard_of l.fn.machine;
}
