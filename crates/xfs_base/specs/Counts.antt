-- Counts of notes, unit by unit.
use Rattle.std.specs.Prelude.{◌≡◌, ℕ, ◌+◌, ◌≤◌, slice_index}
use Rattle.xfs_base.specs.declared.counts.Counts.{Counts}
use Rattle.xfs_base.specs.declared.counts.Places.{Places}

-- the notes of the unit at a place, from 0
abbrev pub at : Counts → ℕ → ℕ
at counts u = slice_index counts.0 u

-- each count is within another
abbrev pub LiesIn : Counts → Counts → Type 0
LiesIn a b = (u : ℕ) → at a u ≤ at b u

-- there are no notes
abbrev pub IsZero : Counts → Type 0
IsZero a = (u : ℕ) → at a u ≡ 0

-- a unit's notes over the six places
abbrev pub all_notes : Places → ℕ → ℕ
all_notes p u = at p.units u + at p.transport u + at p.outlet u + at p.taken u + at p.retracted u + at p.rejected u
