-- A command means what its own reader reads alone: where that refuses its members they are bad.
use Rattle.std.proofs.Common.{◌≡◌, Result, Ok, Err}
use Rattle.serde_json.specs.Data.{Data}
use Rattle.xfs_card.specs.Asks as card_reader
use Rattle.xfs_card.specs.declared.command.CardCommand.{CardCommand}
use Rattle.xfs_dispenser.specs.Asks as dispenser
use Rattle.xfs_dispenser.specs.declared.ask.CashFail.{CashFail}
use Rattle.xfs_dispenser.specs.declared.command.CashCommand.{CashCommand}
use Rattle.xfs_json.specs.declared.members.Shape.{Shape}
use Rattle.xfs_keyboard.specs.Asks as keyboard
use Rattle.xfs_keyboard.specs.declared.ask.EntryAsk.{EntryAsk}
use Rattle.xfs_keyboard.specs.declared.command.KeysCommand.TheVariants.{DataEntry}
use Rattle.xfs_model.specs.Commands.{Means}
use Rattle.xfs_model.specs.State.{Ask, issue, clear, cash, card, entry, bad}
use Rattle.xfs_model.specs.declared.known.Known.TheVariants as known

ok_err : {A E : Type 0} (r : Result A E) (a : A) (e : E) → r ≡ Ok a → r ≡ Err e → ⊥
ok_err r a e is other = cc

pub bad_card : (command : CardCommand) (payload : Data) (fail : Shape) → card_reader.ask_of command payload ≡ Err fail → (ask : Ask) → ¬ Means (known.Card command) payload ask
bad_card command payload fail e issue is = is
bad_card command payload fail e clear is = is
bad_card command payload fail e (cash ask) is = is
bad_card command payload fail e (card ask) is = ok_err (card_reader.ask_of command payload) ask fail is e
bad_card command payload fail e (entry ask) is = is
bad_card command payload fail e bad is = is

pub bad_cash : (command : CashCommand) (payload : Data) (fail : CashFail) → dispenser.ask_of command payload ≡ Err fail → (ask : Ask) → ¬ Means (known.Cash command) payload ask
bad_cash command payload fail e issue is = is
bad_cash command payload fail e clear is = is
bad_cash command payload fail e (cash ask) is = ok_err (dispenser.ask_of command payload) ask fail is e
bad_cash command payload fail e (card ask) is = is
bad_cash command payload fail e (entry ask) is = is
bad_cash command payload fail e bad is = is

pub bad_entry : (payload : Data) → ((ask : EntryAsk) → ¬ keyboard.AsksEntry payload ask) → (ask : Ask) → ¬ Means (known.Keys DataEntry) payload ask
bad_entry payload none issue is = is
bad_entry payload none clear is = is
bad_entry payload none (cash ask) is = is
bad_entry payload none (card ask) is = is
bad_entry payload none (entry ask) is = none ask is
bad_entry payload none bad is = is
