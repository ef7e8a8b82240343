-- What is seen of a fleet: the two machines, each by itself.
use Rattle.xfs_machine.specs.MachineView.{MachineView}
use Rattle.xfs_fleet.specs.declared.side.Side.{Side}
use Rattle.xfs_fleet.specs.declared.side.Side.TheVariants.{A, B}

pub record FleetView (D : Type 0) : Type 0 where
  pub a : MachineView D
  pub b : MachineView D

-- the machine of a side
abbrev pub machine_of : {D : Type 0} → FleetView D → Side → MachineView D
machine_of fleet A = fleet.a
machine_of fleet B = fleet.b

-- the fleet with this machine at a side; the machine at the other side stays as it is
abbrev pub with_machine : {D : Type 0} → FleetView D → Side → MachineView D → FleetView D
with_machine fleet A machine = record fleet { a = machine }
with_machine fleet B machine = record fleet { b = machine }
