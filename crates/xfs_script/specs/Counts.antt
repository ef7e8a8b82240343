-- The text of counts: `unitN:count` of units, joined by commas, N rising.
use Rattle.std.specs.Prelude.{◌≡◌, ℕ, ◌+◌, ◌-◌, ◌<◌, ◌≤◌, ◌==◌, List, [], ◌∷◌, ◌++◌, codes, decimal, map, fold, set, replicate, if◌then◌else◌}
use Rattle.std.specs.List.{join_with_byte}
use Rattle.xfs_base.specs.declared.counts.Counts.{Counts}
use Rattle.xfs_script.specs.Fields.{parts}

-- `unitN:count`
abbrev pub unit_text : ℕ × ℕ → List ℕ
unit_text u = codes "unit" ++ decimal u.0 ++ codes ":" ++ decimal u.1

-- the units from a number on whose count isn't 0, each with its count
abbrev pub filled_units : ℕ → List ℕ → List (ℕ × ℕ)
filled_units unit [] = []
filled_units unit (count ∷ counts) = if count == 0 then filled_units (unit + 1) counts else (unit, count) ∷ filled_units (unit + 1) counts

-- the texts of units joined by commas
abbrev pub joined_units : List (ℕ × ℕ) → List ℕ
joined_units units = join_with_byte 44 (map unit_text units)

-- the texts of units joined by commas, and `none` where there is no unit
abbrev pub units_or_none : List (ℕ × ℕ) → List ℕ
units_or_none [] = codes "none"
units_or_none (u ∷ units) = joined_units (u ∷ units)

-- counts in an answer
abbrev pub counts_text : Counts → List ℕ
counts_text counts = units_or_none (filled_units 1 counts.0)

-- units from 1 to 8, each above the one before it, and counts of at most 1,000,000
abbrev pub AreRising : ℕ → List (ℕ × ℕ) → Type 0
AreRising last [] = Unit {0}
AreRising last (u ∷ units) = (last < u.0) × (u.0 ≤ 8) × (u.1 ≤ 1000000) × AreRising u.0 units

-- a unit has this count
abbrev pub with_unit : List ℕ → ℕ × ℕ → List ℕ
with_unit counts u = set counts (u.0 - 1) u.1

-- a number of at most 1,000,000, without leading zeros
pub record IsCount (text : List ℕ) (count : ℕ) : Type 0 where
  pub digits : text ≡ decimal count
  pub most : count ≤ 1000000

-- one unit from 1 to 8 with its count
pub record IsUnit (part : List ℕ) (unit count : ℕ) : Type 0 where
  pub text : part ≡ unit_text (unit, count)
  pub low : 1 ≤ unit
  pub high : unit ≤ 8
  pub most : count ≤ 1000000

-- the parts of the text are units with these counts, and the other counts are 0
pub record SpellsCounts (text : List ℕ) (counts : Counts) : Type 0 where
  pub units : List (ℕ × ℕ)
  pub each : parts text ≡ map unit_text units
  pub rising : AreRising 0 units
  pub is : counts.0 ≡ fold with_unit (replicate 8 0) units
