-- What the boot of a machine makes of the core that it is handed, and what comes back of one that is refused.
use Rattle.std.specs.Prelude.{◌≡◌, length}
use Rattle.xfs_disk.specs.declared.disk.Disk.{Ghosts as Disks}
use Rattle.xfs_mech.specs.declared.mechanism.Mechanism.{Ghosts as Mechanisms}
use Rattle.xfs_guard.specs.Entries.{at_entry}
use Rattle.xfs_guard.specs.Outcomes.{BootsGuard, RefusesBoot}
use Rattle.xfs_guard.specs.declared.fail.BootFault.{BootFault}
use Rattle.xfs_guard.specs.declared.machine_core.Core.{Core}
use Rattle.xfs_machine.specs.MachineView.{MachineView, guard_of}
use Rattle.xfs_model.specs.State.{bare}
use Rattle.xfs_fleet.specs.Endings.{Ends}
use Rattle.xfs_fleet.specs.FleetView.{FleetView}
use Rattle.xfs_fleet.specs.declared.fail.FleetFail.{FleetFail}

-- a machine is the one that the boot of this core makes
pub record IsBooted {M D : Type 0} (m : Mechanisms M) (d : Disks D) (core : Core M D) (machine : MachineView D) : Type 0 where
  pub bare : machine.state ≡ bare machine.state.seen core.life (length machine.state.seen.guard.records)
  pub tied : machine.state.seen.disk_faults ≡ d.faults machine.disk
  pub boots : BootsGuard d (at_entry m d core) core.disk (guard_of machine)

-- the boot of this core is refused for this, and its mechanism and its disk come back
pub record IsRefusedBoot {M D : Type 0} (m : Mechanisms M) (d : Disks D) (core : Core M D) (why : BootFault) (mech : M) (disk : D) : Type 0 where
  pub mech_is : mech ≡ core.mech
  pub refuses : RefusesBoot d (at_entry m d core) core.disk why disk

-- a core is booted, and its machine ends
pub record BootsAndEnds {M D : Type 0} (m : Mechanisms M) (d : Disks D) (core : Core M D) (mech : M) (disk : D) : Type 0 where
  pub machine : MachineView D
  pub booted : IsBooted m d core machine
  pub ends : Ends m d machine mech disk

-- mechanism and disk are those that were handed in
pub record IsUntouched {M D : Type 0} (core : Core M D) (mech : M) (disk : D) : Type 0 where
  pub mech_is : mech ≡ core.mech
  pub disk_is : disk ≡ core.disk

-- both cores are booted, each by itself
pub record BootsBoth {M D : Type 0} (m : Mechanisms M) (d : Disks D) (a b : Core M D) (fleet : FleetView D) : Type 0 where
  pub first : IsBooted m d a fleet.a
  pub second : IsBooted m d b fleet.b

-- the boot of the first core is refused, and the second core comes back as it was
pub record RefusesFirst {M D : Type 0} (m : Mechanisms M) (d : Disks D) (a b : Core M D) (fail : FleetFail M D) : Type 0 where
  pub refused : IsRefusedBoot m d a fail.why fail.a.mech fail.a.disk
  pub untouched : IsUntouched b fail.b.mech fail.b.disk

-- the first core is booted, and its machine ends, as the boot of the second core is refused
pub record RefusesSecond {M D : Type 0} (m : Mechanisms M) (d : Disks D) (a b : Core M D) (fail : FleetFail M D) : Type 0 where
  pub ended : BootsAndEnds m d a fail.a.mech fail.a.disk
  pub refused : IsRefusedBoot m d b fail.why fail.b.mech fail.b.disk
