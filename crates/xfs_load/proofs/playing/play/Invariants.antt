use Rattle.std.proofs.Common.{◌≤◌, ◌*◌}
use Rattle.xfs_guard.specs.Keeps.{Proceeds}
use Rattle.xfs_machine.specs.MachineView.{guard_of}
use Rattle.xfs_load.specs.Generator.{plan}
use Rattle.xfs_load.specs.Plays.{Plays}
use Rattle.xfs_load.proofs.playing.play.Given as goal

abbrev pub invariant-loop-i : goal.invariant-loop-i
invariant-loop-i g l = record {
  plays : Plays (plan l.i) l.initial.client l.initial.machine.state l.client l.machine.state;
  asked : l.client.asked ≤ 6 * l.i;
  refused : l.client.refused ≤ l.i;
  proceeds : Proceeds g.D.Disk (guard_of l.initial.machine) (guard_of l.machine);
}
