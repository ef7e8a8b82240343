-- What lies in the machine, against its last Boot: the notes that lay there then, and those that were loaded since.
use Rattle.std.specs.Prelude.{◌≡◌, ℕ, ◌+◌, ◌-◌, Bool, false, List, [], ◌∷◌, Some, length, slice_set}
use Rattle.std.specs.List.{Contains}
use Rattle.xfs_base.specs.Counts.{at, all_notes}
use Rattle.xfs_base.specs.declared.counts.Counts.{Counts}
use Rattle.xfs_base.specs.declared.counts.Places.{Places}
use Rattle.xfs_mech.specs.declared.motion.Motion.{Motion}
use Rattle.xfs_mech.specs.declared.motion.Motion.TheVariants.{Loaded}
use Rattle.xfs_journal.specs.declared.record.Rec.{Rec}
use Rattle.xfs_journal.specs.Journal.{boot_places}

-- no notes of any unit
abbrev pub no_notes : Counts
no_notes = record { 0 = 0 ∷ 0 ∷ 0 ∷ 0 ∷ 0 ∷ 0 ∷ 0 ∷ 0 ∷ [] }

-- a number of notes more of one unit, which counts from 1
abbrev pub with_notes : Counts → ℕ → ℕ → Counts
with_notes counts unit count = record { 0 = slice_set counts.0 (unit - 1) (at counts (unit - 1) + count) }

-- what is loaded since the boot record, behind a report: a loading that didn't fail adds its notes
abbrev pub loaded_after : Motion → Bool → Counts → Counts
loaded_after (Loaded unit count) false loaded = with_notes loaded unit count
loaded_after entry failed loaded = loaded

-- A record of the list is the boot record with these places, and each unit has over the six places what it had there, and what was loaded since.
pub record IsBalanced (records : List Rec) (booted : Places) (loaded : Counts) (places : Places) : Type 0 where
  pub boot : Rec
  pub kept : Contains records boot
  pub tells : boot_places boot ≡ Some booted
  pub eight : length loaded.0 ≡ 8
  pub sums : (u : ℕ) → all_notes places u ≡ all_notes booted u + at loaded u
