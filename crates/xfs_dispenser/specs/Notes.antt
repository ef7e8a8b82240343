-- The notes that a Denominate or a Dispense asks for, by the members `mix` and `denomination`.
use Rattle.std.specs.Prelude.{ℕ, List, codes, if◌then◌else◌, Option, Some, None, is_some, option_map, option_and_then}
use Rattle.std.specs.Str.{bytes_eq}
use Rattle.serde_json.specs.Data.{Data, Members, no_members, member}
use Rattle.serde_json.specs.Find.{as_str, as_object}
use Rattle.xfs_json.specs.Members.{member_of, whole_in}
use Rattle.xfs_token.specs.Amounts.{is_currency}
use Rattle.xfs_dispenser.specs.declared.notes.Notes.{Notes}
use Rattle.xfs_dispenser.specs.declared.notes.Notes.TheVariants.{Least, Individual}
use Rattle.xfs_dispenser.specs.Named.{values_in}

-- three letters A to Z
abbrev pub currency_of : List ℕ → Option (List ℕ)
currency_of letters = if is_currency letters then Some letters else None

-- a currency with its amount, a whole number from 1 to 1,000,000
abbrev pub least_of : List ℕ → Data → Option Notes
least_of letters d = option_and_then (λ currency. option_map (Least currency) (whole_in 1 1000000 d)) (currency_of letters)

-- the only member is a currency with its amount
abbrev pub only_amount : Members → Option Notes
only_amount no_members = None
only_amount (member letters d no_members) = least_of letters d
only_amount (member letters d (member other e ms)) = None

-- the mix `minimum`: one currency with its amount
abbrev pub least_in : Data → Option Notes
least_in denomination = option_and_then only_amount (option_and_then as_object (member_of (codes "currencies") denomination))

-- the mix `individual`: counts of units
abbrev pub individual_in : Data → Option Notes
individual_in denomination = option_map Individual (values_in denomination)

-- the notes of a denomination, by the name of the mix
abbrev pub notes_by : List ℕ → Data → Option Notes
notes_by mix denomination =
    if bytes_eq mix (codes "minimum") then least_in denomination
    else if bytes_eq mix (codes "individual") then individual_in denomination
    else None

-- a value that is an object
abbrev pub object_of : Data → Option Data
object_of d = if is_some (as_object d) then Some d else None

-- a payload's notes, where its mix is a text and its denomination an object
abbrev pub notes_in : Data → Option Notes
notes_in payload = option_and_then
    (λ mix. option_and_then (notes_by mix) (option_and_then object_of (member_of (codes "denomination") payload)))
    (option_and_then as_str (member_of (codes "mix") payload))
