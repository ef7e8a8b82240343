-- What a mechanism does with an order, with the customer's taking and with the operator's loading.
use Rattle.std.specs.Prelude.{◌≡◌, ◌≢◌, ℕ, ◌+◌, ◌-◌, ◌≤◌, ◌==◌, Bool, true, false, List, [], ◌∷◌, ◌++◌, Some, None, length, if◌then◌else◌}
use Rattle.std.specs.declared.option.Option.{Option}
use Rattle.xfs_base.specs.Causes.{Rose}
use Rattle.xfs_base.specs.Counts.{at, all_notes, IsZero}
use Rattle.xfs_base.specs.declared.counts.Counts.{Counts}
use Rattle.xfs_base.specs.declared.counts.Places.{Places}
use Rattle.xfs_base.specs.declared.counts.Kind.{Kind}
use Rattle.xfs_base.specs.declared.counts.Kind.TheVariants.{Stack, Present, Reject, Retract}
use Rattle.xfs_base.specs.declared.money.NoteKind.{NoteKind}
use Rattle.xfs_mech.specs.declared.motion.Motion.{Motion}
use Rattle.xfs_mech.specs.Motions.{PlacesOf}

-- a list that is told grows by one entry; a list that isn't told stays untold
abbrev pub AddsEntry : Option (List Motion) → Motion → Option (List Motion) → Type 0
AddsEntry None m new = new ≡ None
AddsEntry (Some old) m new = new ≡ Some (old ++ m ∷ [])

-- where a kind of order takes its notes from
abbrev pub source_of : Kind → Places → Counts
source_of Stack p = p.units
source_of Present p = p.transport
source_of Reject p = p.transport
source_of Retract p = p.outlet

-- the limits: of each unit's notes at most 4,000,000,000 over the six places, at most 10,000 in the unit, and none of a unit past the table
pub record PlacesFit (units : List NoteKind) (p : Places) : Type 0 where
  pub notes : (u : ℕ) → all_notes p u ≤ 4000000000
  pub unit : (u : ℕ) → at p.units u ≤ 10000
  pub past : (u : ℕ) → length units ≤ u → all_notes p u ≡ 0

-- what an order may do: never more than its counts, all of them where it doesn't fail, and notes are diverted only from a unit
pub record MayCarry (kind : Kind) (counts moved diverted : Counts) (failed : Bool) : Type 0 where
  pub within : (u : ℕ) → at moved u + at diverted u ≤ at counts u
  pub full : failed ≡ false → (moved ≡ counts) × IsZero diverted
  pub straight : kind ≢ Stack → IsZero diverted

-- this one entry was added to the list, and leads from the places before to those now
pub record MovesBy (entry : Motion) (before now : Option (List Motion)) (was is : Places) : Type 0 where
  pub grown : AddsEntry before entry now
  pub reached : PlacesOf was (entry ∷ []) is

-- a count of faults didn't fall, and rose where the call failed
pub record CountsFailure (before now : ℕ) (failed : Bool) : Type 0 where
  pub later : before ≤ now
  pub rose : failed ≡ true → Rose before now

-- a report that doesn't fail moves by this one entry; one that fails adds none and moves nothing
pub record Reports (entry : Motion) (failed : Bool) (before now : Option (List Motion)) (was is : Places) : Type 0 where
  pub moves : failed ≡ false → MovesBy entry before now was is
  pub nothing : failed ≡ true → (now ≡ before) × (is ≡ was)

-- what a report may tell: no notes where it fails, and never diverted ones
pub record MayReport (moved diverted : Counts) (failed : Bool) : Type 0 where
  pub nothing : failed ≡ true → IsZero moved
  pub straight : IsZero diverted

-- the room for further entries is one less, and the same where the call failed
abbrev pub UsesRoom : Bool → ℕ → ℕ → Type 0
UsesRoom false before now = now + 1 ≡ before
UsesRoom true before now = now ≡ before

-- the unit is in the table, and the limits hold once so many notes were added to it
pub record CanLoad (units : List NoteKind) (p : Places) (unit count : ℕ) : Type 0 where
  pub low : 1 ≤ unit
  pub high : unit ≤ length units
  pub room : at p.units (unit - 1) + count ≤ 10000
  pub notes : all_notes p (unit - 1) + count ≤ 4000000000

-- a loading that doesn't fail moves exactly its notes
abbrev pub Loads : ℕ → ℕ → Counts → Bool → Type 0
Loads unit count moved failed = failed ≡ false → (u : ℕ) → at moved u ≡ (if unit == u + 1 then count else 0)
