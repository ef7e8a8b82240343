-- A mechanism that goes on where a journal leaves it.
use Rattle.std.specs.Prelude.{◌≡◌, ◌⊎◌, ℕ, List, drop}
use Rattle.std.specs.declared.option.Option.{Option}
use Rattle.xfs_base.specs.Causes.{IfTold, Rose}
use Rattle.xfs_base.specs.declared.counts.Places.{Places}
use Rattle.xfs_base.specs.declared.money.NoteKind.{NoteKind}
use Rattle.xfs_mech.specs.Sim.{motions_of, places_of}
use Rattle.xfs_mech.specs.declared.motion.Motion.{Motion}
use Rattle.xfs_mech.specs.declared.sim.SimMech.{SimMech}
use Rattle.xfs_journal.specs.declared.record.Rec.{Rec}
use Rattle.xfs_journal.specs.Image.{StandsFor}
use Rattle.xfs_journal.specs.Journal.{base_of}
use Rattle.xfs_guard.specs.Replayed.{renumbered, replayed}
use Rattle.xfs_simulated.specs.declared.resume.Told.{Told}
use Rattle.xfs_simulated.specs.Leaving.{IsLeft, IsLost}
use Rattle.xfs_simulated.specs.Simulated.{hundred_each, four_units}

-- the motions are those that the records behind the base stand for, and the notes lie where these leave them; where they leave them nowhere, 100 lie in each unit
pub record GoesOnFrom (units : List NoteKind) (base : ℕ) (kept : List Rec) (motions : List Motion) (places : Places) : Type 0 where
  pub replayed_are : motions ≡ renumbered base (replayed kept)
  pub notes : IsLeft units kept places ⊎ (IsLost units kept × (places ≡ hundred_each))

-- of all records those from the last boot record on are kept
abbrev pub GoesOn : List NoteKind → List Rec → List Motion → Places → Type 0
GoesOn units records motions places = GoesOnFrom units (base_of records) (drop (base_of records) records) motions places

-- the records go on as was told
abbrev pub GoesOnAs : List NoteKind → Told → List Rec → Type 0
GoesOnAs units told records = GoesOn units records told.motions.items told.places

abbrev pub IsResumed : List Rec → SimMech → Type 0
IsResumed records mech = GoesOn four_units records (motions_of mech) (places_of mech)
