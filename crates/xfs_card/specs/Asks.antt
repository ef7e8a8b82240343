-- What the commands of the card reader ask for, by their payloads.
use Rattle.std.specs.Prelude.{◌||◌, ℕ, List, [], ◌∷◌, codes, Bool, false, Option, Some, None, Result, Ok, Err, if◌then◌else◌}
use Rattle.serde_json.specs.Data.{Data}
use Rattle.serde_json.specs.Find.{as_bool}
use Rattle.xfs_json.specs.Members.{member_of, member_as}
use Rattle.xfs_json.specs.declared.members.Shape.{Shape}
use Rattle.xfs_envelope.specs.Fields.{or_else}
use Rattle.xfs_card.specs.declared.ask.CardAsk.{CardAsk}
use Rattle.xfs_card.specs.declared.ask.CardAsk.TheVariants as ask
use Rattle.xfs_card.specs.declared.command.CardCommand.{CardCommand}
use Rattle.xfs_card.specs.declared.command.CardCommand.TheVariants as command

-- whether a track is asked for: not where the member is absent or null; None where it has another shape
abbrev pub asked_in : List ℕ → Data → Option Bool
asked_in name payload = or_else false (member_as as_bool (member_of name payload))

-- at least one track must be asked for
abbrev pub asked_for : Bool → Bool → Bool → Result CardAsk Shape
asked_for one two three = if one || two || three then Ok (ask.Read (one ∷ two ∷ three ∷ [])) else Err record {}

abbrev pub all_of : Option Bool → Option Bool → Option Bool → Result CardAsk Shape
all_of None two three = Err record {}
all_of (Some one) None three = Err record {}
all_of (Some one) (Some two) None = Err record {}
all_of (Some one) (Some two) (Some three) = asked_for one two three

abbrev pub read_ask : Data → Result CardAsk Shape
read_ask payload = all_of (asked_in (codes "track1") payload) (asked_in (codes "track2") payload) (asked_in (codes "track3") payload)

-- what a command asks for, by its payload
abbrev pub ask_of : CardCommand → Data → Result CardAsk Shape
ask_of command.ReadRawData payload = read_ask payload
ask_of command.Move payload = Ok ask.Move
ask_of command.Reset payload = Ok ask.Reset
