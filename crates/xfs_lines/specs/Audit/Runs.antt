-- A run of `audit`: what it writes, and its statuses.
use Rattle.std.specs.Prelude.{◌≡◌, ◌≢◌, ◌⊎◌, ℕ, ◌<◌, List, String, [], length}
use Rattle.std.specs.declared.alloc.Global.{Global}
use Rattle.std.specs.declared.option.Option.{Option}
use Rattle.std.specs.Io.KnownBytes.{Appends}
use Rattle.xfs_base.specs.Causes.{IfTold, Rose, TookPrefix}
use Rattle.xfs_base.specs.declared.money.NoteKind.{NoteKind}
use Rattle.xfs_guard.specs.declared.fail.BootFault.{BootFault}
use Rattle.xfs_guard.specs.declared.machine_core.Core.{Core}
use Rattle.xfs_script.specs.Answered.{AnswersEach}
use Rattle.xfs_script.specs.Endings.{AnswersInput}
use Rattle.xfs_script.specs.Lines.{AllLines, StopsAtLine, behind, first_lines}
use Rattle.xfs_script.specs.declared.answerer.Ending.{Ending}
use Rattle.xfs_script.specs.declared.answerer.Ending.TheVariants.{AtEnd}
use Rattle.xfs_script.specs.declared.feed.TheConstants.{QUOTA}
use Rattle.xfs_lines.specs.Audit.Verbs.{Handed, HandsIn, IsLineOfAudit, TellsVerdict, audit_lines, nothing}
use Rattle.xfs_lines.specs.Returns.{Return, back, ComesBack}
use Rattle.xfs_lines.specs.Run.{IsAudit}
use Rattle.xfs_lines.specs.Output.InputEnds.{ending_line, ending_status}
use Rattle.xfs_lines.specs.Output.Statuses.{IsFinished}
use Rattle.xfs_script.specs.Streams.{Streams, output_of}
use Rattle.xfs_lines.specs.declared.ended.Ended.{Ended}
use Rattle.xfs_lines.specs.declared.output.status.TheConstants.{DISK_FAULT, JOURNAL_FULL, NOT_A_JOURNAL, NOT_A_LINE, NO_MEMORY, READ_TO_END, WRITE_FAULT}
use Rattle.xfs_script.specs.LastLines.{WritesLast}

-- the verdict of what was handed in is written, or the sink took a prefix of it; these bytes were to be written
pub record WritesVerdict (key : List ℕ) (units : List NoteKind) (h : Handed) (Took : List ℕ → Type 0) : Type 0 where
  pub bytes : List ℕ
  pub tells : TellsVerdict key units h bytes
  pub took : Took bytes

-- at the end of the input the verdict is written; or the sink failed in it; or there was no memory for it, and nothing is written
abbrev pub Judges : List ℕ → List NoteKind → Handed → ℕ → Option (List ℕ) → Option (List ℕ) → Type 0
Judges key units h status before after =
    ((status ≡ READ_TO_END) × WritesVerdict key units h (Appends before after))
    ⊎ (((status ≡ WRITE_FAULT) × WritesVerdict key units h (TookPrefix before after))
    ⊎ ((status ≡ NO_MEMORY) × Appends before after []))

-- where the lines ended in another way, that ending has its status and its last line, and there is no verdict
abbrev pub Concludes : List ℕ → List NoteKind → Handed → Ending BootFault → ℕ → Streams → Type 0
Concludes key units h AtEnd status io = Judges key units h status io.output io.output_now
Concludes key units h ending status io = (status ≡ ending_status ending) × WritesLast (ending_line ending) (output_of io)

-- the first lines of the input hand something in, and nothing is written before they end
pub record Audits (key : List ℕ) (units : List NoteKind) (status : ℕ) (io : Streams) (text : List ℕ) : Type 0 where
  pub handed : Handed
  pub ending : Ending BootFault
  pub lines : AnswersInput audit_lines ending nothing handed io.left io.output io.output text
  pub concludes : Concludes key units handed ending status io

-- each line of the input handed something in, and the verdict of all of it is what is written
pub record IsAudited (key : List ℕ) (units : List NoteKind) (io : Streams) (text : List ℕ) : Type 0 where
  pub many : ℕ
  pub whole : behind many text ≡ []
  pub handed : Handed
  pub lines : AnswersEach HandsIn nothing (first_lines many text) [] handed
  pub writes : WritesVerdict key units handed (Appends io.output io.output_now)

pub record RunsAudit {M D : Type 0} (core : Core M D) (result : Return M D) (io : Streams) : Type 0 where
  -- what is written under each status; nothing is written before the end of the lines
  pub audits : IfTold io.input (Audits core.key core.units result.status io)
  -- where the input was read to its end, what is written is the verdict of what its lines handed in, under the core's key and units
  pub verdict : result.status ≡ READ_TO_END → IfTold io.input (IsAudited core.key core.units io)
  pub lines : result.status ≡ READ_TO_END → IfTold io.input (AllLines IsLineOfAudit)
  pub not_a_line : result.status ≡ NOT_A_LINE → IfTold io.input (StopsAtLine IsLineOfAudit)
  pub kept : ComesBack core result
  -- it boots nothing
  pub unbooted : (result.status ≢ DISK_FAULT) × (result.status ≢ NOT_A_JOURNAL) × (result.status ≢ JOURNAL_FULL)
  -- a run that nothing hinders ends with its input
  pub finishes : ¬ (Rose io.read_faults io.read_faults_now) → ¬ (Rose io.write_faults io.write_faults_now)
      → IfTold io.input (λ text. AllLines IsLineOfAudit text → length text < QUOTA → IsFinished result.status)

-- the words `audit` have a run of `audit`
abbrev pub RunsAuditOf : {M D L : Type 0} → List (String Global) → Core M D → Ended M D L → Streams → Type 0
RunsAuditOf words core ended io = IsAudit words → RunsAudit core (back ended) io
