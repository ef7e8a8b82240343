-- The commands that a service knows by name and that are pending until they are answered: the line of each, and what it asks.
use Rattle.std.specs.Prelude.{◌≡◌, ℕ, List, ⊤, Option, None, option_map, Ok}
use Rattle.std.specs.Option.{option_or}
use Rattle.serde_json.specs.Data.{Data}
use Rattle.xfs_base.specs.declared.moment.Service.{Service}
use Rattle.xfs_base.specs.declared.moment.Service.TheVariants.{Publisher, Card, Keys, Cash}
use Rattle.xfs_card.specs.Asks as card_reader
use Rattle.xfs_card.specs.Commands.{card_command}
use Rattle.xfs_common.specs.Commands.{nonce_command}
use Rattle.xfs_common.specs.declared.command.CommonCommand.TheVariants.{GetCommandNonce, ClearCommandNonce}
use Rattle.xfs_dispenser.specs.Asks as dispenser
use Rattle.xfs_dispenser.specs.Commands.{cash_command}
use Rattle.xfs_keyboard.specs.Asks as keyboard
use Rattle.xfs_keyboard.specs.Commands.{keys_command}
use Rattle.xfs_keyboard.specs.declared.command.KeysCommand.TheVariants.{DataEntry}
use Rattle.xfs_queue.specs.declared.command.Line.{Line}
use Rattle.xfs_queue.specs.declared.command.Line.TheVariants.{Nonce, Device}
use Rattle.xfs_model.specs.declared.known.Known.{Known}
use Rattle.xfs_model.specs.declared.known.Known.TheVariants as known
use Rattle.xfs_model.specs.State.{Ask, issue, clear, cash, card, entry, bad}

-- the command of a name at a service; every other name is done at once
abbrev pub known_of : Service → List ℕ → Option Known
known_of Publisher name = None
known_of Card name = option_map known.Card (card_command name)
known_of Keys name = option_map known.Keys (keys_command name)
known_of Cash name = option_or (option_map known.Nonce (nonce_command name)) (option_map known.Cash (cash_command name))

-- the line on which a command waits
abbrev pub line_of : Known → Line
line_of (known.Nonce command) = Nonce
line_of (known.Card command) = Device
line_of (known.Keys command) = Device
line_of (known.Cash command) = Device

-- a command and its payload mean this
abbrev pub Means : Known → Data → Ask → Type 0
Means (known.Nonce GetCommandNonce) payload issue = ⊤
Means (known.Nonce ClearCommandNonce) payload clear = ⊤
Means (known.Card command) payload (card ask) = card_reader.ask_of command payload ≡ Ok ask
Means (known.Keys DataEntry) payload (entry ask) = keyboard.AsksEntry payload ask
Means (known.Cash command) payload (cash ask) = dispenser.ask_of command payload ≡ Ok ask
Means command payload ask = ⊥

-- what a command asks: what it means, or its members are bad
abbrev pub Asks : Known → Data → Ask → Type 0
Asks command payload bad = (ask : Ask) → ¬ Means command payload ask
Asks command payload ask = Means command payload ask
