-- How a machine of a fleet ends, and how it begins anew.
use Rattle.std.specs.Prelude.{◌≡◌, false, None}
use Rattle.xfs_disk.specs.declared.disk.Disk.{Ghosts as Disks}
use Rattle.xfs_mech.specs.declared.mechanism.Mechanism.{Ghosts as Mechanisms}
use Rattle.xfs_guard.specs.Keeps.{Keeps, NoEntry}
use Rattle.xfs_guard.specs.declared.fail.BootFault.{BootFault}
use Rattle.xfs_machine.specs.Endings.{IsHandedBack, HandsBackRefused, IsRefusedThrough}
use Rattle.xfs_machine.specs.Laws.{IsLawful}
use Rattle.xfs_machine.specs.MachineView.{MachineView, guard_of}
use Rattle.xfs_model.specs.Events.{end_, ended, restart, restarted}
use Rattle.xfs_model.specs.Step.{Step, gone}
use Rattle.xfs_guard.specs.Stored.{EachLeft}
use Rattle.xfs_guard.specs.Recorded.{IsRecorded}
use Rattle.xfs_journal.specs.JournalView.{IsPossible}

-- a machine ends, and its mechanism and its disk come back as they are
pub record Ends {M D : Type 0} (m : Mechanisms M) (d : Disks D) (machine : MachineView D) (mech : M) (disk : D) : Type 0 where
  pub step : Step machine.state end_ ended (gone machine.state machine.state.seen)
  pub back : IsHandedBack m d machine.state.seen mech disk
  pub left : EachLeft d disk (IsPossible machine.state.seen.guard.records machine.state.seen.guard.in_doubt)
  pub recorded : EachLeft d disk (IsRecorded machine.state.seen.guard.key machine.state.seen.guard.units machine.state.seen.guard.motions)
  pub clean : machine.state.seen.guard.shut ≡ false → machine.state.seen.guard.in_doubt ≡ None
  pub disk_is : disk ≡ machine.disk

-- a machine begins anew
pub record BeginsAnew {D : Type 0} (d : Disks D) (old new : MachineView D) : Type 0 where
  pub step : Step old.state restart restarted new.state
  pub laws : IsLawful old.state restart restarted new.state
  pub keeps : Keeps d NoEntry (guard_of old) (guard_of new)

-- a machine is refused its restart for this, and its mechanism and its disk come back
pub record IsRefusedRestart {M D : Type 0} (m : Mechanisms M) (d : Disks D) (old : MachineView D) (why : BootFault) (mech : M) (disk : D) : Type 0 where
  pub refused : HandsBackRefused m d old.state why mech disk
  pub through : IsRefusedThrough d (guard_of old) disk
  pub left : EachLeft d disk (IsRecorded old.state.seen.guard.key old.state.seen.guard.units (m.motions mech))
