-- What the words of the command line name.
use Rattle.std.proofs.Common.{List}
use Rattle.std.specs.Prelude.{String}
use Rattle.std.specs.declared.alloc.Global.{Global}
use Rattle.xfs_words.specs.Words.{Names, texts}
use Rattle.xfs_words.specs.declared.command.Command.{Command}
use Rattle.xfs_lines.specs.Run.{IsCommand}

-- words that name nothing are no command
pub no-command : (words : List (String Global)) → ((command : Command) → ¬ (Names command (texts words))) → IsCommand words → ⊥
no-command words none is = none is.0 is.1
