-- What is claimed behind a number: of the records behind it, as if the list began there, and of the mechanism's entries in reach of it, whose numbers are counted from it. Behind 0 that is the whole list and every entry.
use Rattle.std.specs.Prelude.{◌≡◌, ℕ, ◌+◌, ◌-◌, ◌==◌, nat_lt, Bool, true, false, ◌||◌, List, take, drop, map, filter, Some}
use Rattle.std.specs.List.{AllByRecursion}
use Rattle.std.specs.declared.option.Option.{Option}
use Rattle.xfs_base.specs.Causes.{IfTold}
use Rattle.xfs_base.specs.declared.counts.Places.{Places}
use Rattle.xfs_base.specs.declared.money.NoteKind.{NoteKind}
use Rattle.xfs_mech.specs.Motions.{NumberIs}
use Rattle.xfs_mech.specs.declared.motion.Motion.{Motion}
use Rattle.xfs_mech.specs.declared.motion.Motion.TheVariants.{Moved}
use Rattle.xfs_journal.specs.Journal.{boot_places, next_issue, next_number, record_at, CarriesNumber, Walk}
use Rattle.xfs_journal.specs.JournalView.{IsPossible}
use Rattle.xfs_journal.specs.declared.record.Rec.{Rec}
use Rattle.xfs_guard.specs.Agrees.{Agrees}
use Rattle.xfs_guard.specs.Sound.{Ties, where_told}
use Rattle.xfs_guard.specs.View.{View}
use Rattle.xfs_guard.specs.Within.{Within}

-- the number passes this one, or this one is 0
abbrev pub is_in_reach : ℕ → ℕ → Bool
is_in_reach from number = from == 0 || nat_lt from number

-- a moved entry is in reach of a number that its own passes; an entry without a number always is
abbrev pub is_reached : ℕ → Motion → Bool
is_reached from (Moved number kind moved diverted) = is_in_reach from number
is_reached from m = true

-- a moved entry's number counted from another
abbrev pub number_from : ℕ → Motion → Motion
number_from from (Moved number kind moved diverted) = Moved (number - from) kind moved diverted
number_from from m = m

-- the entries in reach, with their numbers counted from there
abbrev pub reached : ℕ → List Motion → List Motion
reached from motions = map (number_from from) (filter (is_reached from) motions)

-- no moved entry is in reach
abbrev pub NoneInReach : ℕ → List Motion → Type 0
NoneInReach from motions = AllByRecursion (NumberIs (λ n. is_in_reach from n ≡ false)) motions

-- the records behind a number and the entries in reach of it tell the same
abbrev pub AgreesBehind : ℕ → List Rec → List Motion → Type 0
AgreesBehind from records motions = Agrees (drop from records) (reached from motions)

-- each entry in reach that put notes out is paid for by the one token of its segment
abbrev pub WithinBehind : ℕ → List ℕ → List NoteKind → List Rec → List Motion → Type 0
WithinBehind from key units records motions = Within key units (drop from records) (reached from motions)

-- each Issue behind a number carries one more than the number of Issues before it, and a Start their number
abbrev pub NumberedBehind : ℕ → List Rec → Type 0
NumberedBehind from records = Walk next_number CarriesNumber (next_issue (take from records)) (drop from records)

-- the issues behind a number are numbered, the lists tell the same there, and nothing was put out there that a token doesn't cover
pub record IsRecordedBehind (from : ℕ) (key : List ℕ) (units : List NoteKind) (records : List Rec) (motions : Option (List Motion)) : Type 0 where
  pub numbered : NumberedBehind from records
  pub agrees : IfTold motions (AgreesBehind from records)
  pub within : IfTold motions (WithinBehind from key units records)

-- the record of this number tells places, as a boot record does
pub record IsBootAt (records : List Rec) (number : ℕ) : Type 0 where
  pub boot : Rec
  pub places : Places
  pub there : record_at records number ≡ Some boot
  pub tells : boot_places boot ≡ Some places

-- a guard as if its list began behind a number
abbrev pub view_behind : ℕ → View → View
view_behind from v = record v { records = drop from v.records }

-- What stands behind a number between two calls: a boot record is the first there, each possible list is recorded from there on, and while the journal is open and has its boot record, what the mechanism's entries in reach put out is what the Done records say and what an acted order put out. Where the mechanism's list isn't compared, that is the numbering alone.
pub record StandsBehind (compared : Bool) (from : ℕ) (v : View) : Type 0 where
  pub booted : IsBootAt v.records (from + 1)
  pub recorded : (records : List Rec) → IsPossible v.records v.in_doubt records → IsRecordedBehind from v.key v.units records (where_told compared v.motions)
  pub tied : v.shut ≡ false → v.boot_missing ≡ false → IfTold (where_told compared v.motions) (λ motions. Ties (view_behind from v) (reached from motions))

-- where the mechanism's list is compared, none of its moved entries is in reach
abbrev pub IsComparable : Bool → ℕ → Option (List Motion) → Type 0
IsComparable compared from motions = compared ≡ true → IfTold motions (NoneInReach from)

-- a guard from whose base on it stands, where none of the mechanism's moved entries is in reach of that
abbrev pub BeginsBehind : View → Type 0
BeginsBehind v = (compared : Bool) → IsComparable compared v.base v.motions → StandsBehind compared v.base v
