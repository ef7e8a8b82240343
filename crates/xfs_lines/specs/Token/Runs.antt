-- A run of `token`: what it writes, and its statuses.
use Rattle.std.specs.Prelude.{◌≡◌, ◌≢◌, ◌<◌, List, String, length}
use Rattle.xfs_base.specs.Causes.{IfTold, Rose}
use Rattle.xfs_guard.specs.declared.machine_core.Core.{Core}
use Rattle.xfs_script.specs.Lines.{AllLines, StopsAtLine}
use Rattle.xfs_lines.specs.Output.InputEnds.{EndsInput}
use Rattle.xfs_lines.specs.Output.Statuses.{IsFinished}
use Rattle.xfs_script.specs.Streams.{Streams}
use Rattle.xfs_lines.specs.Token.Verbs.{IsLineOfToken, token_lines}
use Rattle.xfs_lines.specs.Returns.{ComesBack, Return, back}
use Rattle.xfs_lines.specs.declared.output.status.TheConstants.{DISK_FAULT, JOURNAL_FULL, NOT_A_JOURNAL, NOT_A_LINE, READ_TO_END}
use Rattle.xfs_script.specs.declared.feed.TheConstants.{QUOTA}
use Rattle.std.specs.declared.alloc.Global.{Global}
use Rattle.xfs_lines.specs.declared.ended.Ended.{Ended}
use Rattle.xfs_lines.specs.Run.{IsToken}

pub record RunsToken {M D : Type 0} (core : Core M D) (result : Return M D) (io : Streams) : Type 0 where
  -- what is written: the answers of the lines, and at most one last line
  pub answers : IfTold io.input (EndsInput token_lines core.key core.key result.status io)
  pub lines : result.status ≡ READ_TO_END → IfTold io.input (AllLines IsLineOfToken)
  pub not_a_line : result.status ≡ NOT_A_LINE → IfTold io.input (StopsAtLine IsLineOfToken)
  pub kept : ComesBack core result
  -- it boots nothing
  pub unbooted : (result.status ≢ DISK_FAULT) × (result.status ≢ NOT_A_JOURNAL) × (result.status ≢ JOURNAL_FULL)
  -- a run that nothing hinders ends with its input
  pub finishes : ¬ (Rose io.read_faults io.read_faults_now) → ¬ (Rose io.write_faults io.write_faults_now)
      → IfTold io.input (λ text. AllLines IsLineOfToken text → length text < QUOTA → IsFinished result.status)

-- the words `token` have a run of `token`
abbrev pub RunsTokenOf : {M D L : Type 0} → List (String Global) → Core M D → Ended M D L → Streams → Type 0
RunsTokenOf words core ended io = IsToken words → RunsToken core (back ended) io
