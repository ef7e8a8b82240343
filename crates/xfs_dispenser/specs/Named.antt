-- Counts of notes by the names of their units: the `values` of a denomination, and the `storage` of a SetStorage.
use Rattle.std.specs.Prelude.{ℕ, List, [], ◌∷◌, map, codes, Bool, true, false, ◌&&◌, if◌then◌else◌, Option, Some, None, is_some, option_and_then, unwrap_or}
use Rattle.std.specs.List.{list_any}
use Rattle.std.specs.Str.{bytes_eq}
use Rattle.serde_json.specs.Data.{Data, Members, no_members, member}
use Rattle.serde_json.specs.Find.{get, as_object}
use Rattle.xfs_base.specs.declared.counts.Counts.{Counts}
use Rattle.xfs_json.specs.Members.{member_of, whole_in}
use Rattle.xfs_units.specs.Payloads.{unit_name, added_of}
use Rattle.xfs_dispenser.specs.declared.named.Named.{Named}
use Rattle.xfs_dispenser.specs.declared.named.Named.TheVariants.{These, OtherName}

-- the numbers of unit1 to unit8
abbrev pub all_units : List ℕ
all_units = 1 ∷ 2 ∷ 3 ∷ 4 ∷ 5 ∷ 6 ∷ 7 ∷ 8 ∷ []

-- one of unit1 to unit8
abbrev pub is_unit : List ℕ → Bool
is_unit name = list_any (λ unit. bytes_eq name (unit_name unit)) all_units

-- every name is a unit's
abbrev pub are_units : Members → Bool
are_units no_members = true
are_units (member name d ms) = is_unit name && are_units ms

-- every value has a count
abbrev pub are_all : (Data → Option ℕ) → Members → Bool
are_all count no_members = true
are_all count (member name d ms) = is_some (count d) && are_all count ms

-- a unit's count in an object, and 0 where it isn't named
abbrev pub count_in : (Data → Option ℕ) → ℕ → Data → ℕ
count_in count unit d = unwrap_or (option_and_then count (get (unit_name unit) d)) 0

-- a count for each unit, from the first on
abbrev pub counts_by : (ℕ → ℕ) → Counts
counts_by count = record { 0 = map count all_units }

-- the counts in an object of these members, or that a name isn't a unit's
abbrev pub named_in : (Data → Option ℕ) → Data → Members → Named
named_in count d ms = if are_units ms then These (counts_by (λ unit. count_in count unit d)) else OtherName

-- the counts in an object of members whose values all have a count, or that a name isn't a unit's
abbrev pub counted_in : (Data → Option ℕ) → Data → Members → Option Named
counted_in count d ms = if are_all count ms then Some (named_in count d ms) else None

-- a count in `values`: a whole number from 0 to 1,000,000
abbrev pub count_of : Data → Option ℕ
count_of d = whole_in 0 1000000 d

-- every value is a count of `values`
abbrev pub are_counts : Members → Bool
are_counts ms = are_all count_of ms

-- the counts by name that an object of `values` has
abbrev pub named_counts : Data → Option Named
named_counts d = option_and_then (counted_in count_of d) (as_object d)

-- the counts in `values`, where there are any, and else no notes
abbrev pub counts_or_none : Option Data → Option Named
counts_or_none None = Some (These (counts_by (λ unit. 0)))
counts_or_none (Some d) = named_counts d

-- the counts of a denomination, whose `values` may be absent or null
abbrev pub values_in : Data → Option Named
values_in denomination = counts_or_none (member_of (codes "values") denomination)

-- an object has a member
abbrev pub has_members : Members → Bool
has_members no_members = false
has_members (member name d ms) = true

-- what one or more members add
abbrev pub added_in : Data → Members → Option Named
added_in d ms = if has_members ms then counted_in added_of d ms else None

-- what the object in `storage` of a SetStorage adds
abbrev pub storage_in : Data → Option Named
storage_in payload = option_and_then (λ d. option_and_then (added_in d) (as_object d)) (member_of (codes "storage") payload)
