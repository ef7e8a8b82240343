use Rattle.std.proofs.Common.{◌-◌}
use Rattle.xfs_guard.specs.Keeps.{Proceeds}
use Rattle.xfs_machine.specs.MachineView.{guard_of}
use Rattle.xfs_load.proofs.RestLaws.{IsUnderway}
use Rattle.xfs_load.proofs.resting.rest.Given as goal

abbrev pub invariant-loop-count : goal.invariant-loop-count
invariant-loop-count g l = record {
  underway : IsUnderway l.now 100000 l.count l.fn.machine.state l.machine.state;
  proceeds : Proceeds g.D.Disk (guard_of l.fn.machine) (guard_of l.machine);
}

abbrev pub decreases-loop-count : goal.decreases-loop-count
decreases-loop-count g l = 100000 - l.count
