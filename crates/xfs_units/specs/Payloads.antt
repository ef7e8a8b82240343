-- The payloads of Storage.GetStorage and Storage.SetStorage.
use Rattle.std.specs.Prelude.{◌≡◌, ℕ, ◌+◌, ◌-◌, ◌≤◌, List, [], ◌∷◌, ◌++◌, codes, ⊤, IsSome, Option, None, Some, unwrap_or, option_and_then}
use Rattle.serde_json.specs.Data.{Data, string, number, object, unsigned, Members, no_members, member}
use Rattle.serde_json.specs.Find.{get, as_object}
use Rattle.xfs_base.specs.Counts.{at}
use Rattle.xfs_base.specs.declared.counts.Counts.{Counts}
use Rattle.xfs_base.specs.declared.counts.Places.{Places}
use Rattle.xfs_base.specs.declared.money.NoteKind.{NoteKind}
use Rattle.xfs_json.specs.Members.{member_of, whole_in}

-- unit1 to unit8: the digit behind the word
abbrev pub unit_name : ℕ → List ℕ
unit_name unit = codes "unit" ++ (48 + unit) ∷ []

-- what GetStorage tells of one unit
abbrev pub unit_payload : NoteKind → ℕ → Data
unit_payload kind count = object (member (codes "count") (number (unsigned count)) (member (codes "currency") (string kind.currency) (member (codes "value") (number (unsigned kind.value)) no_members)))

-- what GetStorage tells of the units from one on, whose kinds these are
abbrev pub units_payload : List NoteKind → ℕ → Counts → Members
units_payload [] unit counts = no_members
units_payload (k ∷ ks) unit counts = member (unit_name unit) (unit_payload k (at counts (unit - 1))) (units_payload ks (unit + 1) counts)

-- the payload of GetStorage: each unit of the table, with the notes in it
abbrev pub storage_payload : List NoteKind → Places → Data
storage_payload units places = object (member (codes "storage") (object (units_payload units 1 places.units)) no_members)

-- what SetStorage adds to one unit: a whole number from 1 to 10,000
abbrev pub added_of : Data → Option ℕ
added_of d = option_and_then (whole_in 1 10000) (member_of (codes "added") d)

-- each member says what it adds
abbrev pub AllAdded : Members → Type 0
AllAdded no_members = ⊤
AllAdded (member name d ms) = IsSome (added_of d) × AllAdded ms

-- there is a member, and each says what it adds
abbrev pub AreAdded : Option Members → Type 0
AreAdded None = ⊥
AreAdded (Some no_members) = ⊥
AreAdded (Some (member name d ms)) = AllAdded (member name d ms)

abbrev pub IsUnitName : List ℕ → Type 0
IsUnitName name = (unit : ℕ) × (1 ≤ unit) × (unit ≤ 8) × (name ≡ unit_name unit)

-- each member is of unit1 to unit8
abbrev pub AreUnits : Members → Type 0
AreUnits no_members = ⊤
AreUnits (member name d ms) = IsUnitName name × AreUnits ms

-- the object in the payload's storage
abbrev pub storage_of : Data → Option Members
storage_of payload = option_and_then as_object (member_of (codes "storage") payload)

-- what a payload adds to a unit, which counts from 1
abbrev pub added_to : ℕ → Data → ℕ
added_to unit payload = unwrap_or (option_and_then added_of (option_and_then (get (unit_name unit)) (member_of (codes "storage") payload))) 0
