-- What the commands of the cash dispenser ask for, by their payloads.
use Rattle.std.specs.Prelude.{ℕ, List, codes, Option, option_map, option_and_then, ok_or, Result, Ok}
use Rattle.std.specs.Result.{result_ok}
use Rattle.serde_json.specs.Data.{Data}
use Rattle.serde_json.specs.Find.{as_str}
use Rattle.xfs_json.specs.Members.{member_of, member_as}
use Rattle.xfs_dispenser.specs.declared.ask.CashAsk.{CashAsk}
use Rattle.xfs_dispenser.specs.declared.ask.CashAsk.TheVariants as ask
use Rattle.xfs_dispenser.specs.declared.ask.CashFail.{CashFail}
use Rattle.xfs_dispenser.specs.declared.ask.CashFail.TheVariants.{Shape}
use Rattle.xfs_dispenser.specs.declared.command.CashCommand.{CashCommand}
use Rattle.xfs_dispenser.specs.declared.command.CashCommand.TheVariants as command
use Rattle.xfs_dispenser.specs.Named.{storage_in}
use Rattle.xfs_dispenser.specs.Notes.{notes_in}

-- the token's text: Some None where it is absent or null, None where it is no text
abbrev pub token_in : Data → Option (Option (List ℕ))
token_in payload = result_ok (member_as as_str (member_of (codes "token") payload))

-- the token isn't looked at
abbrev pub denominate_of : Data → Result CashAsk CashFail
denominate_of payload = ok_or (option_map ask.Denominate (notes_in payload)) Shape

abbrev pub dispense_of : Data → Result CashAsk CashFail
dispense_of payload = ok_or (option_and_then (λ notes. option_map (ask.Dispense notes) (token_in payload)) (notes_in payload)) Shape

abbrev pub set_storage_of : Data → Result CashAsk CashFail
set_storage_of payload = ok_or (option_map ask.SetStorage (storage_in payload)) Shape

-- what a command asks for, by its payload
abbrev pub ask_of : CashCommand → Data → Result CashAsk CashFail
ask_of command.Denominate payload = denominate_of payload
ask_of command.Dispense payload = dispense_of payload
ask_of command.Present payload = Ok ask.Present
ask_of command.Reject payload = Ok ask.Reject
ask_of command.Reset payload = Ok ask.Reset
ask_of command.Retract payload = Ok ask.Retract
ask_of command.StartExchange payload = Ok ask.StartExchange
ask_of command.SetStorage payload = set_storage_of payload
ask_of command.EndExchange payload = Ok ask.EndExchange
