-- The commands of the card reader, by name.
use Rattle.std.specs.Prelude.{ℕ, List, [], ◌∷◌, codes, Option}
use Rattle.std.specs.Map.{lookup}
use Rattle.std.specs.Str.{bytes_eq}
use Rattle.xfs_card.specs.declared.command.CardCommand.{CardCommand}
use Rattle.xfs_card.specs.declared.command.CardCommand.TheVariants.{ReadRawData, Move, Reset}

abbrev pub card_commands : List (List ℕ × CardCommand)
card_commands =
    (codes "CardReader.ReadRawData", ReadRawData)
    ∷ (codes "CardReader.Move", Move)
    ∷ (codes "CardReader.Reset", Reset) ∷ []

-- the command of a name
abbrev pub card_command : List ℕ → Option CardCommand
card_command name = lookup (bytes_eq name) card_commands
