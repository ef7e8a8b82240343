-- How a machine ends, or is refused a restart, and what comes back of it.
use Rattle.std.specs.Prelude.{◌≡◌, ◌≢◌, List, Option, Result, is_some}
use Rattle.xfs_disk.specs.declared.disk.Disk.{Ghosts}
use Rattle.xfs_dispenser.specs.Seen.{Becomes, Seen, seen}
use Rattle.xfs_dispenser.specs.Steps.{IsUnknown}
use Rattle.xfs_guard.specs.CrashOutcomes.{MayMove}
use Rattle.xfs_guard.specs.Keeps.{Keeps, NoEntry, Proceeds}
use Rattle.xfs_guard.specs.Recorded.{IsRecorded}
use Rattle.xfs_guard.specs.Stored.{EachLeft}
use Rattle.xfs_guard.specs.View.{GuardView, View}
use Rattle.xfs_guard.specs.declared.deny.Deny.{Deny}
use Rattle.xfs_guard.specs.declared.fail.BootFault.{BootFault}
use Rattle.xfs_guard.specs.declared.fail.BootFault.TheVariants.{NotJournal, Disk, Full, Memory}
use Rattle.xfs_guard.specs.declared.open.Open.{Open}
use Rattle.xfs_guard.specs.declared.open.Open.TheVariants.{No, Written, Acted}
use Rattle.xfs_mech.specs.declared.mechanism.Mechanism.{Ghosts as Mechanisms}
use Rattle.xfs_mech.specs.declared.motion.Motion.{Motion}
use Rattle.xfs_machine.specs.Answers.{finished}
use Rattle.xfs_model.specs.Events.{finish, restart, unrestarted}
use Rattle.xfs_model.specs.Guards.{FailsToBoot, FindsNoRoom}
use Rattle.xfs_model.specs.State.{State, bare}
use Rattle.xfs_model.specs.Step.{Step, gone}
use Rattle.xfs_disk.specs.Moments.{EachImage}
use Rattle.xfs_journal.specs.JournalView.{HasPossible}

-- mechanism and disk are those of the guard as it was last seen
pub record IsHandedBack {M D : Type 0} (m : Mechanisms M) (g : Ghosts D) (last : Seen) (mech : M) (disk : D) : Type 0 where
  pub stored : EachImage g disk (HasPossible last.guard.records last.guard.in_doubt)
  pub told : is_some (g.held disk) ≡ last.guard.disk_told
  pub disk_faults : g.faults disk ≡ last.disk_faults
  pub motions : m.motions mech ≡ last.guard.motions
  pub places : m.places mech ≡ last.guard.places
  pub units : m.units mech ≡ last.guard.units
  pub faults : m.faults mech ≡ last.guard.faults

-- why a restart is refused: a disk that tells nothing is no journal, the disk fails, the boot record passes a limit where a boot's would, or memory runs out and the guard is as before
abbrev pub RefusesAs : BootFault → Seen → Seen → Type 0
RefusesAs (NotJournal at) old new = IsUnknown old new
RefusesAs Disk old new = FailsToBoot old new
RefusesAs Full old new = FindsNoRoom old new
RefusesAs Memory old new = Becomes old old.guard new

-- the written order is acted, and then settled: a crash in between finds the guard of between
pub record ActsThenSettles {D : Type 0} (g : Ghosts D) (old new : GuardView D) : Type 0 where
  pub between : GuardView D
  pub acts : Keeps g (MayMove old.state) old between
  pub settles : Keeps g NoEntry between new

-- what a crash finds inside a finish, by the order that is open
abbrev pub ClosesThrough : {D : Type 0} → Ghosts D → Open → GuardView D → GuardView D → Type 0
ClosesThrough g No old new = new ≡ old
ClosesThrough g (Written kind counts) old new = ActsThenSettles g old new
ClosesThrough g (Acted kind moved diverted failed) old new = Keeps g NoEntry old new

-- a machine is finished through such states, and mechanism and disk are those of the last
pub record IsFinishedThrough {M D : Type 0} (m : Mechanisms M) (g : Ghosts D) (old : GuardView D) (mech : M) (disk : D) : Type 0 where
  pub last : GuardView D
  pub through : ClosesThrough g old.state.open_order old last
  pub proceeds : Proceeds g old last
  pub back : IsHandedBack m g (seen g last) mech disk
  pub disk_is : disk ≡ last.disk

-- a crash inside a refused restart finds the journal's list or that list with its boot record, and the last disk is this one
pub record IsRefusedThrough {D : Type 0} (g : Ghosts D) (old : GuardView D) (disk : D) : Type 0 where
  pub last : GuardView D
  pub keeps : Keeps g NoEntry old last
  pub disk_is : disk ≡ last.disk

-- a restart is refused by a step after which the machine is gone
abbrev pub IsUnrestarted : State → Seen → Type 0
IsUnrestarted old last = Step old restart unrestarted (gone old last)

-- nothing is left of a machine but its guard, its life and its boot
abbrev pub IsEmptied : State → State → Type 0
IsEmptied old new = new ≡ bare new.seen old.life old.boot

-- the disk is left with nothing but lists that are recorded with this list of the mechanism
abbrev pub IsLeftRecorded : {D : Type 0} → Ghosts D → D → View → Option (List Motion) → Type 0
IsLeftRecorded g disk guard motions = EachLeft g disk (IsRecorded guard.key guard.units motions)

-- A refused restart: why, and mechanism and disk come back as it left them. But for want of memory it is a step of a machine that is gone then.
pub record HandsBackRefused {M D : Type 0} (m : Mechanisms M) (g : Ghosts D) (old : State) (why : BootFault) (mech : M) (disk : D) : Type 0 where
  pub last : Seen
  pub cause : RefusesAs why old.seen last
  pub step : why ≢ Memory → IsUnrestarted old last
  pub back : IsHandedBack m g last mech disk

-- an open order was carried out and settled, or the disk failed at that; mechanism and disk are those of the guard then
abbrev pub Finishes : {M D : Type 0} → Mechanisms M → Ghosts D → State → Result Unit Deny → M → D → Type 0
Finishes m g old settled mech disk = (last : Seen) × Step old finish (finished settled) (gone old last) × IsHandedBack m g last mech disk
