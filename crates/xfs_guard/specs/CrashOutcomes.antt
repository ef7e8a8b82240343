-- What a crash may leave at any moment of a call.
use Rattle.std.specs.Prelude.{◌≡◌, ◌⊎◌, ℕ, Bool, List, length}
use Rattle.std.specs.declared.option.Option.{Option}
use Rattle.xfs_base.specs.Counts.{LiesIn}
use Rattle.xfs_base.specs.declared.counts.Counts.{Counts}
use Rattle.xfs_base.specs.declared.counts.Kind.{Kind}
use Rattle.xfs_base.specs.declared.counts.Places.{Places}
use Rattle.xfs_base.specs.declared.money.NoteKind.{NoteKind}
use Rattle.xfs_mech.specs.Mechanism.{AddsEntry, MayCarry}
use Rattle.xfs_mech.specs.declared.motion.Motion.{Motion}
use Rattle.xfs_mech.specs.declared.motion.Motion.TheVariants.{Moved, Taken}
use Rattle.xfs_journal.specs.Image.{StandsFor}
use Rattle.xfs_journal.specs.JournalView.{StandsForEither}
use Rattle.xfs_journal.specs.declared.record.Rec.{Rec}
use Rattle.xfs_journal.specs.Journal.{boot_of}
use Rattle.xfs_guard.specs.declared.open.Open.TheVariants.{Written}
use Rattle.xfs_guard.specs.Recorded.{IsRecorded}
use Rattle.xfs_guard.specs.View.{View}

-- each image stands for some list
abbrev pub EachStands : (List ℕ → Type 0) → Type 0
EachStands images = (c : List ℕ) → images c → (records : List Rec) × StandsFor c records

-- the bytes stand for a list of records that is recorded with the mechanism's list, and with that list and one such entry more
pub record StandsThrough (v : View) (MayAdd : Motion → Type 0) (bytes : List ℕ) : Type 0 where
  pub records : List Rec
  pub stands : StandsFor bytes records
  pub before : IsRecorded v.key v.units v.motions records
  pub after : (entry : Motion) (now : Option (List Motion)) → MayAdd entry → AddsEntry v.motions entry now → IsRecorded v.key v.units now records

-- an entry that the mechanism may add when it carries out the written order
pub record MayMove (v : View) (entry : Motion) : Type 0 where
  pub kind : Kind
  pub counts : Counts
  pub moved : Counts
  pub diverted : Counts
  pub failed : Bool
  pub written : v.open_order ≡ Written kind counts
  pub carried : MayCarry kind counts moved diverted failed
  pub entry_is : entry ≡ Moved (length v.records) kind moved diverted

-- an entry that the mechanism may add when the customer takes notes
pub record MayTake (v : View) (entry : Motion) : Type 0 where
  pub counts : Counts
  pub lie : LiesIn counts v.places.outlet
  pub entry_is : entry ≡ Taken counts

-- one of the images before, or the bytes stand for the list that was found
abbrev pub IsOldOrFound : (List ℕ → Type 0) → List ℕ → List ℕ → Type 0
IsOldOrFound images all bytes = images bytes ⊎ ((found : List Rec) × StandsFor all found × StandsFor bytes found)

-- one of the images before, or the bytes stand for the list that was found, with this boot record or without it
abbrev pub IsOldOrBooted : (List ℕ → Type 0) → List ℕ → Places → List ℕ → Type 0
IsOldOrBooted images all places bytes = images bytes ⊎ ((found : List Rec) × StandsFor all found × StandsForEither found (boot_of found places) bytes)
