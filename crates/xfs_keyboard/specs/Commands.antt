-- The commands of the keyboard, by name.
use Rattle.std.specs.Prelude.{ℕ, List, [], ◌∷◌, codes, Option}
use Rattle.std.specs.Map.{lookup}
use Rattle.std.specs.Str.{bytes_eq}
use Rattle.xfs_keyboard.specs.declared.command.KeysCommand.{KeysCommand}
use Rattle.xfs_keyboard.specs.declared.command.KeysCommand.TheVariants.{DataEntry}

abbrev pub keys_commands : List (List ℕ × KeysCommand)
keys_commands = (codes "Keyboard.DataEntry", DataEntry) ∷ []

-- the command of a name
abbrev pub keys_command : List ℕ → Option KeysCommand
keys_command name = lookup (bytes_eq name) keys_commands
