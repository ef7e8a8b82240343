-- Words that are none of a command's: they are told those that there are.
use Rattle.std.specs.Prelude.{◌≡◌, ◌↔◌, [], ◌∷◌}
use Rattle.xfs_guard.specs.declared.bench.Bench.{Bench}
use Rattle.xfs_script.specs.LastLines.{WritesLast}
use Rattle.xfs_script.specs.Streams.{Streams, output_of}
use Rattle.xfs_lines.specs.Output.InputEnds.{usage_line}
use Rattle.xfs_lines.specs.Returns.{ComesBack, back}
use Rattle.xfs_lines.specs.declared.ended.Ended.{Ended}
use Rattle.xfs_lines.specs.declared.output.status.TheConstants.{USAGE}

-- the words that there are are told
abbrev pub WritesUsage : Streams → Type 0
WritesUsage io = WritesLast (usage_line ∷ []) (output_of io)

-- the status says so exactly where the words aren't the command's; then the words that there are are told, nothing is read, and mechanism and disk come back as they were
pub record TellsUsage {S M D P Q L : Type 0} (IsCommandOf : Type 0) (bench : Bench M D P Q) (ended : Ended M D L) (before after : S) (io : Streams) : Type 0 where
  pub usage : (ended.status ≡ USAGE) ↔ ¬ IsCommandOf
  pub usage_written : ended.status ≡ USAGE → WritesUsage io
  pub unread : ended.status ≡ USAGE → after ≡ before
  pub idle : ended.status ≡ USAGE → ComesBack bench.core (back ended)
