-- What a reader of a member finds: nothing where it is absent or null, its value where it has the asked shape, and else Shape.
use Rattle.std.specs.Prelude.{ℕ, List, Option, Some, None, option_and_then, Result, Ok, Err, nat_le, ◌&&◌, if◌then◌else◌}
use Rattle.serde_json.specs.Data.{Data, null, boolean, number, string, array, object}
use Rattle.serde_json.specs.Find.{get, as_number, as_u64}
use Rattle.xfs_json.specs.declared.members.Shape.{Shape}

-- a value, unless it is null
abbrev pub present : Data → Option Data
present null = None
present (boolean b) = Some (boolean b)
present (number n) = Some (number n)
present (string s) = Some (string s)
present (array ds) = Some (array ds)
present (object ms) = Some (object ms)

-- the member of this name, unless it is absent or null
abbrev pub member_of : List ℕ → Data → Option Data
member_of name d = option_and_then present (get name d)

abbrev pub shaped : {A : Type 0} → Option A → Result (Option A) Shape
shaped None = Err record {}
shaped (Some a) = Ok (Some a)

-- a member, as what it is read as
abbrev pub member_as : {A : Type 0} → (Data → Option A) → Option Data → Result (Option A) Shape
member_as reads None = Ok None
member_as reads (Some d) = shaped (reads d)

abbrev pub within : ℕ → ℕ → ℕ → Option ℕ
within low high n = if nat_le low n && nat_le n high then Some n else None

-- a whole number from low to high
abbrev pub whole_in : ℕ → ℕ → Data → Option ℕ
whole_in low high d = option_and_then (within low high) (option_and_then as_u64 (as_number d))

-- what is found, with a value seen by f
abbrev pub result_map : {A B E : Type 0} → (A → B) → Result A E → Result B E
result_map f (Ok a) = Ok (f a)
result_map f (Err e) = Err e
