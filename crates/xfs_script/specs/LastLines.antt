-- What is written of the last lines of an output.
use Rattle.std.specs.Prelude.{◌⊎◌, ℕ, List}
use Rattle.std.specs.Io.KnownBytes.{Appends}
use Rattle.xfs_base.specs.Causes.{Rose, TookPrefix}
use Rattle.xfs_script.specs.Answered.{lines_text}
use Rattle.xfs_script.specs.Streams.{Output}

-- the sink took all of some last lines, or failed and took a prefix of them
abbrev pub WritesLast : List (List ℕ) → Output → Type 0
WritesLast lines o = Appends o.held o.held_now (lines_text lines) ⊎ (Rose o.faults o.faults_now × TookPrefix o.held o.held_now (lines_text lines))
