-- Which lists a crash left on the way from one state of a guard to a later one.
use Rattle.std.specs.Prelude.{◌≡◌, ◌≢◌, ◌⊎◌, ℕ, ◌<◌, Bool, true, ◌||◌, is_some, List, [], ◌∷◌, ◌++◌, length, Some}
use Rattle.std.specs.declared.option.Option.{Option}
use Rattle.std.specs.List.{AllByRecursion}
use Rattle.xfs_base.specs.Causes.{IfTold}
use Rattle.xfs_disk.specs.Moments.{EachMoment}
use Rattle.xfs_disk.specs.declared.disk.Disk.{Ghosts}
use Rattle.xfs_mech.specs.declared.motion.Motion.{Motion}
use Rattle.xfs_mech.specs.Motions.{NumberIs}
use Rattle.xfs_journal.specs.Image.{StandsFor}
use Rattle.xfs_journal.specs.Journal.{boot_of, record_at, with_boot}
use Rattle.xfs_base.specs.declared.counts.Places.{Places}
use Rattle.xfs_journal.specs.JournalView.{longest, IsPossible, StandsForEither}
use Rattle.xfs_journal.specs.declared.record.Rec.{Rec}
use Rattle.xfs_guard.specs.Agrees.{IsNoOrder}
use Rattle.xfs_guard.specs.Lives.{BeginsWith}
use Rattle.xfs_guard.specs.View.{View, GuardView}

-- A list that is a prefix of the records but for its last record. What stands in that one's place now, or is in doubt there, is the same record, or no order; where nothing stands there, the journal takes no record but a boot record.
pub record IsTorn (records : List Rec) (in_doubt : Option Rec) (closed : Bool) (list : List Rec) : Type 0 where
  pub prefix : List Rec
  pub last : Rec
  pub split : list ≡ prefix ++ last ∷ []
  pub kept : BeginsWith records prefix
  pub replaced : (r : Rec) → record_at (longest records in_doubt) (length list) ≡ Some r → (last ≡ r) ⊎ IsNoOrder (Some r)
  pub closed_there : length records < length list → closed ≡ true

-- a crash left this list on the way to these records: it is a prefix of them, but perhaps for its last record
abbrev pub IsCrashOutcome : List Rec → Option Rec → Bool → List Rec → Type 0
IsCrashOutcome records in_doubt closed list = BeginsWith records list ⊎ IsTorn records in_doubt closed list

-- the journal takes no record before it is mounted again
abbrev pub is_closed : View → Bool
is_closed v = v.shut || v.boot_missing

-- a crash left this list on the way to this state of a guard
abbrev pub IsCrashOutcomeAt : View → List Rec → Type 0
IsCrashOutcomeAt v list = IsCrashOutcome v.records v.in_doubt (is_closed v) list

-- the bytes stand for a list that begins with the earlier records, a crash outcome on the way to the later state
pub record StandsLeft (old new : View) (bytes : List ℕ) : Type 0 where
  pub list : List Rec
  pub stands : StandsFor bytes list
  pub begins : BeginsWith list old.records
  pub left : IsCrashOutcomeAt new list

-- a possible list was read again, and the bytes stand for it, or for it with this boot record; both were left on the way to what is kept now
pub record StandsReread (kept : List Rec) (in_doubt : Option Rec) (places : Places) (IsLeftNow : List Rec → Type 0) (bytes : List ℕ) : Type 0 where
  pub list : List Rec
  pub possible : IsPossible kept in_doubt list
  pub either : StandsForEither list (boot_of list places) bytes
  pub without : IsLeftNow list
  pub booted : IsLeftNow (with_boot list places)

-- The disk goes on telling, and each image of each moment since the earlier state is one of those of then, or stands for a list that was left on the way to the later one.
pub record LeavesBehind {D : Type 0} (g : Ghosts D) (old new : GuardView D) : Type 0 where
  pub told : is_some (g.held new.disk) ≡ is_some (g.held old.disk)
  pub moments : EachMoment g old.disk new.disk (λ _ bytes. g.images old.disk bytes ⊎ StandsLeft old.state new.state bytes)

-- without its last record the list is a prefix of the records, and no motion has that record's number
pub record IsLost (records : List Rec) (motions : Option (List Motion)) (list : List Rec) : Type 0 where
  pub prefix : List Rec
  pub last : Rec
  pub split : list ≡ prefix ++ last ∷ []
  pub kept : BeginsWith records prefix
  pub unmoved : IfTold motions (AllByRecursion (NumberIs (λ n. n ≢ length list)))
