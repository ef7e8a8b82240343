-- Where the notes lie after a journal's records.
use Rattle.std.specs.Prelude.{◌≡◌, ◌+◌, ◌≤◌, ◌⊎◌, ℕ, List, [], ◌∷◌, slice_get, take, Some, None, ⊤}
use Rattle.std.specs.declared.option.Option.{Option}
use Rattle.xfs_base.specs.Counts.{LiesIn, at}
use Rattle.xfs_base.specs.declared.counts.Places.{Places}
use Rattle.xfs_base.specs.declared.money.NoteKind.{NoteKind}
use Rattle.xfs_mech.specs.Mechanism.{CanLoad, PlacesFit, source_of}
use Rattle.xfs_mech.specs.Motions.{PlacesOf}
use Rattle.xfs_mech.specs.declared.motion.Motion.{Motion}
use Rattle.xfs_mech.specs.declared.motion.Motion.TheVariants.{Moved, Taken, Loaded}
use Rattle.xfs_journal.specs.declared.record.Rec.{Rec}
use Rattle.xfs_journal.specs.Journal.{boot_places}
use Rattle.xfs_guard.specs.Replayed.{replayed}

-- the motions lead from the first places to the second, which a mechanism may have
pub record Leads (units : List NoteKind) (start : Places) (motions : List Motion) (places : Places) : Type 0 where
  pub moved : PlacesOf start motions places
  pub fit : PlacesFit units places

-- the places that the first of the records tells
abbrev pub first_places : List Rec → Option Places
first_places [] = None
first_places (r ∷ rs) = boot_places r

-- the motions lead there from the places that are told
abbrev pub LeadsFrom : List NoteKind → Option Places → List Motion → Places → Type 0
LeadsFrom units (Some booted) motions places = Leads units booted motions places
LeadsFrom units None motions places = ⊥

-- the motions that the records stand for lead there from the places of the boot record that is the first of them
abbrev pub IsLeft : List NoteKind → List Rec → Places → Type 0
IsLeft units records places = LeadsFrom units (first_places records) (replayed records) places

-- the notes of the motion lie where it takes them from, or the places have room for those that it loads
abbrev pub CanBeMade : List NoteKind → Places → Motion → Type 0
CanBeMade units p (Moved number kind moved diverted) = (u : ℕ) → at moved u + at diverted u ≤ at (source_of kind p) u
CanBeMade units p (Taken counts) = LiesIn counts p.outlet
CanBeMade units p (Loaded unit count) = CanLoad units p unit count

-- a motion that can't be made where those before it lead
pub record CantMove (units : List NoteKind) (start : Places) (motions : List Motion) : Type 0 where
  pub before : ℕ
  pub motion : Motion
  pub there : slice_get motions before ≡ Some motion
  pub places : Places
  pub leads : Leads units start (take before motions) places
  pub stuck : ¬ CanBeMade units places motion

-- the first places are none that a mechanism may have, or some motion can't be made
abbrev pub LeadsNowhere : List NoteKind → Places → List Motion → Type 0
LeadsNowhere units start motions = ¬ PlacesFit units start ⊎ CantMove units start motions

-- no places are told, or the motions lead nowhere from them
abbrev pub LeadsNowhereFrom : List NoteKind → Option Places → List Motion → Type 0
LeadsNowhereFrom units (Some booted) motions = LeadsNowhere units booted motions
LeadsNowhereFrom units None motions = ⊤

-- the first of the records is no boot record, or the motions that they stand for lead nowhere from its places
abbrev pub IsLost : List NoteKind → List Rec → Type 0
IsLost units records = LeadsNowhereFrom units (first_places records) (replayed records)
