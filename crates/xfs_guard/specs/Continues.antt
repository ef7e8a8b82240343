-- What happened from one state of a guard to a later one. The possible lists of a guard are its journal's list and, where the journal keeps a record in doubt, that list with this record: each of the later ones comes from one of the earlier ones.
use Rattle.std.specs.Prelude.{◌≡◌, ◌≤◌, ℕ, Bool, List, length, Some, None}
use Rattle.std.specs.List.{AllByRecursion}
use Rattle.std.specs.declared.option.Option.{Option}
use Rattle.xfs_base.specs.declared.counts.Places.{Places}
use Rattle.xfs_mech.specs.declared.motion.Motion.{Motion}
use Rattle.xfs_journal.specs.JournalView.{IsPossible}
use Rattle.xfs_journal.specs.declared.record.Rec.{Rec}
use Rattle.xfs_journal.specs.Journal.{with_boot}
use Rattle.xfs_mech.specs.Motions.{NumberIs}
use Rattle.xfs_mech.specs.Moves.{Moves}
use Rattle.xfs_guard.specs.Crashed.{IsCrashOutcomeAt}
use Rattle.xfs_guard.specs.Lives.{BeginsWith}
use Rattle.xfs_guard.specs.Reach.{StandsBehind}
use Rattle.xfs_guard.specs.View.{View}
use Rattle.xfs_guard.specs.Follows.{Follows}

-- earlier lists and places led to these; no new entry has a number above the new list's length
pub record Led (records : List Rec) (motions : List Motion) (places : Places) (records' : List Rec) (motions' : List Motion) (places' : Places) : Type 0 where
  pub follows : Follows records motions places records' motions' places'
  pub known : AllByRecursion (NumberIs (λ n. n ≤ length records')) follows.moves

-- earlier lists and places led to these, of a mechanism that tells its list in both states; one that tells it in neither leads to a list that begins with the earlier one
abbrev pub Leads : List Rec → Option (List Motion) → Places → List Rec → Option (List Motion) → Places → Type 0
Leads from None was records None is = BeginsWith records from
Leads from None was records (Some now) is = ⊥
Leads from (Some before) was records None is = ⊥
Leads from (Some before) was records (Some now) is = Led from before was records now is

-- a possible list of the later state comes from one of the earlier state
pub record Comes (old new : View) (records : List Rec) : Type 0 where
  pub from : List Rec
  pub possible : IsPossible old.records old.in_doubt from
  pub led : Leads from old.motions old.places records new.motions new.places

-- what happened from one state of a guard to another
pub record Continues (old new : View) : Type 0 where
  pub leads : (records : List Rec) → IsPossible new.records new.in_doubt records → Comes old new records
  pub key : new.key ≡ old.key
  pub seed : new.seed ≡ old.seed
  pub units : new.units ≡ old.units
  pub moves : Moves old.motions new.motions old.places new.places
  pub disk_told : new.disk_told ≡ old.disk_told
  pub limits : new.limits ≡ old.limits
  pub grew : BeginsWith new.records old.records
  -- a list that a crash left on the way there was left on the way here
  pub left : (list : List Rec) → IsCrashOutcomeAt old list → IsCrashOutcomeAt new list
  -- what stood behind a number goes on standing, also where the disk tells nothing
  pub behind : (compared : Bool) (from : ℕ) → StandsBehind compared from old → StandsBehind compared from new

-- a boot goes on from the records that it found, before the boot record of these places
abbrev pub ContinuesFound : Places → View → Type 0
ContinuesFound places now = (records : List Rec) → now.records ≡ with_boot records places → Continues (record now { records = records }) now
