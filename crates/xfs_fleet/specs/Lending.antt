-- What a fleet ends as, where a `&mut` to the machine of a side is returned.
use Rattle.std.specs.Borrow.{Lends, Fml, RattleType, MutBor}
use Rattle.xfs_disk.specs.declared.disk.Disk.{Ghosts as Disks}
use Rattle.xfs_mech.specs.declared.mechanism.Mechanism.{Ghosts as Mechanisms}
use Rattle.xfs_machine.specs.MachineView.{MachineView}
use Rattle.xfs_machine.specs.contracts.machine.Machine as machine
use Rattle.xfs_fleet.specs.FleetView.{FleetView, with_machine}
use Rattle.xfs_fleet.specs.contracts.fleet.Fleet.{the_row}
use Rattle.xfs_fleet.specs.declared.side.Side.{Side}

-- once the loan r ends, the machine of the side is the one last written through r
abbrev pub LendsMachine : (M D : RattleType) → Mechanisms M.Denot → Disks D.Denot → MutBor (FleetView D.Denot) → Side → MutBor (MachineView D.Denot) → Fml
LendsMachine M D m d fleet side r = Lends (the_row M D m d) (machine.the_row M D m d) fleet r (with_machine fleet.now side)
