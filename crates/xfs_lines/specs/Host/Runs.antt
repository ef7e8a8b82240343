-- A run of `host`: what it writes, and its statuses.
use Rattle.std.specs.Prelude.{◌≡◌, ◌≢◌, ◌<◌, List, String, length}
use Rattle.std.specs.declared.alloc.Global.{Global}
use Rattle.xfs_base.specs.Causes.{IfTold, Rose}
use Rattle.xfs_guard.specs.declared.machine_core.Core.{Core}
use Rattle.xfs_host.specs.Host.{State}
use Rattle.xfs_script.specs.Lines.{AllLines, StopsAtLine}
use Rattle.xfs_script.specs.declared.feed.TheConstants.{QUOTA}
use Rattle.xfs_lines.specs.Host.Verbs.{IsLineOfHost, host_lines, new_host}
use Rattle.xfs_lines.specs.Returns.{Return, back, ComesBack}
use Rattle.xfs_lines.specs.Run.{IsHost}
use Rattle.xfs_lines.specs.Output.InputEnds.{EndsInput}
use Rattle.xfs_lines.specs.Output.Statuses.{IsFinished}
use Rattle.xfs_script.specs.Streams.{Streams}
use Rattle.xfs_lines.specs.declared.ended.Ended.{Ended}
use Rattle.xfs_lines.specs.declared.output.status.TheConstants.{DISK_FAULT, JOURNAL_FULL, NOT_A_JOURNAL, NOT_A_LINE, READ_TO_END}

pub record RunsHost {M D : Type 0} (core : Core M D) (result : Return M D) (io : Streams) : Type 0 where
  -- what is written: the answers of the lines, from no account on, under the core's key; and at most one last line
  pub answers : IfTold io.input (λ text. (end : State) × EndsInput host_lines (new_host core.key) end result.status io text)
  pub lines : result.status ≡ READ_TO_END → IfTold io.input (AllLines IsLineOfHost)
  pub not_a_line : result.status ≡ NOT_A_LINE → IfTold io.input (StopsAtLine IsLineOfHost)
  pub kept : ComesBack core result
  -- it boots nothing
  pub unbooted : (result.status ≢ DISK_FAULT) × (result.status ≢ NOT_A_JOURNAL) × (result.status ≢ JOURNAL_FULL)
  -- a run that nothing hinders ends with its input
  pub finishes : ¬ (Rose io.read_faults io.read_faults_now) → ¬ (Rose io.write_faults io.write_faults_now)
      → IfTold io.input (λ text. AllLines IsLineOfHost text → length text < QUOTA → IsFinished result.status)

-- the words `host` have a run of `host`
abbrev pub RunsHostOf : {M D L : Type 0} → List (String Global) → Core M D → Ended M D L → Streams → Type 0
RunsHostOf words core ended io = IsHost words → RunsHost core (back ended) io
