-- The statuses of the program, and when a run of a command that boots ends with its input: where every line is one, the input is short enough, the journal has room for each boot record, and nothing failed.
use Rattle.std.specs.Prelude.{◌≡◌, ◌⊎◌, ℕ, ◌<◌, List, String, [], ◌∷◌, length}
use Rattle.std.specs.Io.KnownBytes.{IsAtEnd}
use Rattle.std.specs.declared.alloc.Global.{Global}
use Rattle.xfs_base.specs.Causes.{IfTold, Rose}
use Rattle.xfs_base.specs.declared.counts.Places.{Places}
use Rattle.xfs_journal.specs.declared.limits.Limits.{Limits}
use Rattle.xfs_journal.specs.declared.record.Rec.{Rec}
use Rattle.xfs_lines.specs.Boots.{BootExceeds}
use Rattle.xfs_script.specs.Answered.{AnswersEach}
use Rattle.xfs_script.specs.Commands.{Command}
use Rattle.xfs_script.specs.Lines.{behind, first_line, first_lines, AllLines}
use Rattle.xfs_script.specs.Reading.{GaveAll}
use Rattle.xfs_guard.specs.declared.fail.BootFault.{BootFault}
use Rattle.xfs_lines.specs.Guard.Restarts.{HasNoRoom}
use Rattle.xfs_lines.specs.Run.{IsClient, IsServe}
use Rattle.xfs_lines.specs.Guard.States.{GuardState}
use Rattle.xfs_script.specs.Streams.{Streams}
use Rattle.xfs_lines.specs.declared.output.status.TheConstants.{DISK_FAULT, INPUT_TOO_LONG, JOURNAL_FULL, NOT_A_JOURNAL, NOT_A_LINE, NO_MEMORY, READ_FAULT, READ_TO_END, USAGE, WRITE_FAULT}
use Rattle.xfs_script.specs.declared.feed.TheConstants.{QUOTA}

-- a number is one of these
abbrev pub IsOneOf : List ℕ → ℕ → Type 0
IsOneOf [] n = ⊥
IsOneOf (x ∷ xs) n = (n ≡ x) ⊎ IsOneOf xs n

abbrev pub IsStatus : ℕ → Type 0
IsStatus status = IsOneOf (READ_TO_END ∷ USAGE ∷ READ_FAULT ∷ NOT_A_LINE ∷ WRITE_FAULT ∷ DISK_FAULT ∷ NOT_A_JOURNAL ∷ NO_MEMORY ∷ INPUT_TOO_LONG ∷ JOURNAL_FULL ∷ []) status

-- a status of words that are neither `serve` nor `client`, whose runs have statuses of their own
abbrev pub IsStatusOf : List (String Global) → ℕ → Type 0
IsStatusOf words status = ¬ (IsServe words) → ¬ (IsClient words) → IsStatus status

-- each status of the input and the output has its cause
pub record IsCaused (status : ℕ) (io : Streams) : Type 0 where
  pub whole : status ≡ READ_TO_END → IsAtEnd io.left
  pub fewer : status ≡ READ_TO_END → IfTold io.input (λ text. length text < QUOTA)
  pub read : status ≡ READ_FAULT → Rose io.read_faults io.read_faults_now
  pub write : status ≡ WRITE_FAULT → Rose io.write_faults io.write_faults_now
  pub quota : status ≡ INPUT_TOO_LONG → GaveAll io.input io.left

-- a line of the text is this restart, and finds no room for its boot record behind the state that the lines before it left, answered from the start of the run on; Ends tells of what is seen of that state
pub record HasFullRestart {S : Type 0} (restart : List ℕ) (c : Command S BootFault) (see : S → GuardState) (IsStartOf : S → Type 0) (Ends : GuardState → Type 0) (text : List ℕ) : Type 0 where
  pub start : S
  pub begins : IsStartOf start
  pub many : ℕ
  pub output : List (List ℕ)
  pub last : S
  pub each : AnswersEach c.Answers start (first_lines many text) output last
  pub line : first_line (behind many text) ≡ restart
  pub full : HasNoRoom (see last).guard
  pub ends : Ends (see last)

-- every line of the input is a line, the input is short enough, and the boot record passes no limit behind the records of the disk, nor does that of a restart which ends the run
pub record IsUnhindered (IsLineOf HasNoRoomAt : List ℕ → Type 0) (text : List ℕ) (limits : Limits) (places : Places) (records : List Rec) : Type 0 where
  pub lines : AllLines IsLineOf text
  pub short : length text < QUOTA
  pub boots : ¬ (BootExceeds limits places records)
  pub restarts : ¬ (HasNoRoomAt text)

-- the input was read to its end, or memory ran out
abbrev pub IsFinished : ℕ → Type 0
IsFinished status = (status ≡ READ_TO_END) ⊎ (status ≡ NO_MEMORY)
