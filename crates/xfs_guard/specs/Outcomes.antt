-- What comes of a boot, of a restore and of an end.
use Rattle.std.specs.Prelude.{◌≡◌, ◌≢◌, ◌⊎◌, ◌≤◌, ℕ, Bool, false, is_some, None, Err, IfErr}
use Rattle.std.specs.declared.result.Result.{Result}
use Rattle.xfs_base.specs.Causes.{IfTold, Rose}
use Rattle.xfs_disk.specs.Moments.{LeavesOnly, EachImage, EachMoment}
use Rattle.xfs_disk.specs.declared.disk.Disk.{Ghosts}
use Rattle.xfs_mech.specs.declared.mechanism.Mechanism.{Ghosts as Mechanisms}
use Rattle.xfs_journal.specs.Image.{StandsFor}
use Rattle.xfs_journal.specs.JournalView.{IsCarriedOver, IsNoJournal, HasPossible, IsPossible}
use Rattle.xfs_journal.specs.Paging.{IsQuiet}
use Rattle.xfs_guard.specs.Booting.{HadRoom, IsNotReread, IsRereadFailed, IsRereadFull, LacksRoom, LeavesEither, IsSpared}
use Rattle.xfs_guard.specs.Continues.{ContinuesFound}
use Rattle.xfs_guard.specs.CrashOutcomes.{EachStands, IsOldOrBooted}
use Rattle.xfs_guard.specs.Entries.{AtEntry, BeginsFound}
use Rattle.xfs_guard.specs.Reach.{BeginsBehind}
use Rattle.xfs_guard.specs.View.{GuardView}
use Rattle.xfs_guard.specs.declared.fail.BootFault.{BootFault}
use Rattle.xfs_guard.specs.declared.fail.BootFault.TheVariants.{NotJournal, Disk, Full, Memory}
use Rattle.xfs_journal.specs.Held.{StandsForSome, WhereNoJournal}
use Rattle.xfs_guard.specs.Stored.{EachLeft}
use Rattle.xfs_guard.specs.Recorded.{IsRecorded}

-- What a crash leaves at any moment of a boot: where each image stood for a list, a list that is recorded; and else than an earlier image only the list that was found, with the boot record or without it. No count of the disk's faults fell.
pub record LeavesBooted {D : Type 0} (d : Ghosts D) (e : AtEntry) (before now : D) : Type 0 where
  pub any_moment : IfTold e.held (λ _. EachStands (d.images before) → LeavesOnly d before now (StandsForSome (IsRecorded e.key e.units e.motions)))
  pub crashes : IfTold e.held (λ all. LeavesOnly d before now (IsOldOrBooted (d.images before) all e.places))
  pub faults : e.disk_faults ≤ d.faults now

-- The guard of a boot: it begins with what was found and goes on from that, there was room for its boot record, and its journal is of the version that boots write.
pub record BootsGuard {D : Type 0} (d : Ghosts D) (e : AtEntry) (before : D) (guard : GuardView D) : Type 0 where
  pub begins : BeginsFound e guard.state
  pub fits : HadRoom e.held e.limits e.places guard.state.records
  pub continues : ContinuesFound e.places guard.state
  pub carried : IsCarriedOver (d.held guard.disk)
  -- from its base on it stands, also where the disk tells nothing, where no entry of the mechanism is in reach of that
  pub behind : BeginsBehind guard.state
  pub leaves : LeavesBooted d e before guard.disk

-- The boot is refused for this, and leaves this disk: the reason is true of what was found, and what was not to be written is as it was.
pub record RefusesBoot {D : Type 0} (d : Ghosts D) (e : AtEntry) (before : D) (why : BootFault) (now : D) : Type 0 where
  pub not_journal : (at : ℕ) → why ≡ NotJournal at → IsNoJournal e.held at
  pub refused : (at : ℕ) → why ≡ NotJournal at → IsQuiet d before now
  pub full : why ≡ Full → LacksRoom e.held e.limits e.places
  pub disk : why ≡ Disk → Rose e.disk_faults (d.faults now)
  pub left : EachLeft d now (IsRecorded e.key e.units e.motions)
  pub either : LeavesEither d before now e.places
  pub unlisted : WhereNoJournal (d.held before) (IsQuiet d before now)
  pub unwritten : why ≢ Disk → EachMoment d before now (IsSpared (d.images before))
  pub told : is_some (d.held now) ≡ is_some (d.held before)
  pub leaves : LeavesBooted d e before now

-- What each refusal of a restore leaves, or of a reboot, which rebases: after want of memory all is as before, after want of room a list was read, and after the others the journal is shut. A disk that tells is never refused as no journal.
pub record RefusesRestore {D : Type 0} (g : Ghosts D) (rebases : Bool) (result : Result Unit BootFault) (old new : GuardView D) : Type 0 where
  pub memory : result ≡ Err Memory → new.state ≡ old.state
  pub full : result ≡ Err Full → IsRereadFull rebases old.state new.state
  pub found : result ≡ Err Full → IfTold (g.held old.disk) (λ all. StandsFor all new.state.records)
  pub disk : result ≡ Err Disk → IsNotReread old.state new.state ⊎ IsRereadFailed rebases old.state new.state
  pub not_journal : IfErr result (λ f. (at : ℕ) → f ≡ NotJournal at → (g.held old.disk ≡ None) × IsNotReread old.state new.state)
  pub untold : IfErr result (λ f. (at : ℕ) → f ≡ NotJournal at → old.state.disk_told ≡ false)
  pub cause : result ≡ Err Disk → Rose (g.faults old.disk) (g.faults new.disk)

-- The mechanism and the disk come back as the guard had them, and each list that a crash may leave of the disk is recorded.
pub record HandsBack {M D : Type 0} (m : Mechanisms M) (d : Ghosts D) (guard : GuardView D) (mech : M) (now : D) : Type 0 where
  pub stored : EachImage d now (HasPossible guard.state.records guard.state.in_doubt)
  pub left : EachLeft d now (IsPossible guard.state.records guard.state.in_doubt)
  pub recorded : EachLeft d now (IsRecorded guard.state.key guard.state.units guard.state.motions)
  pub clean : guard.state.shut ≡ false → guard.state.in_doubt ≡ None
  pub told : is_some (d.held now) ≡ guard.state.disk_told
  pub disk : now ≡ guard.disk
  pub motions : m.motions mech ≡ guard.state.motions
  pub places : m.places mech ≡ guard.state.places
  pub units : m.units mech ≡ guard.state.units
  pub faults : m.faults mech ≡ guard.state.faults
