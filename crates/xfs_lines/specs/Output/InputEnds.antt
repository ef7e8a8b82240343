-- How a command over the lines of its input ends: their answers, at most one last line, and the status.
use Rattle.std.specs.Prelude.{◌≡◌, ◌≢◌, ℕ, List, [], ◌∷◌, ◌++◌, codes, decimal}
use Rattle.std.specs.declared.option.Option.{Option}
use Rattle.xfs_base.specs.Causes.{IfTold}
use Rattle.xfs_script.specs.Commands.{Command}
use Rattle.xfs_script.specs.LastLines.{WritesLast}
use Rattle.xfs_script.specs.Lines.{AllLines, StopsAtLine}
use Rattle.xfs_script.specs.Endings.{AnswersInput, EndsAfter}
use Rattle.xfs_script.specs.declared.answerer.Ending.{Ending}
use Rattle.xfs_script.specs.declared.answerer.Ending.TheVariants.{AtEnd, Read, Quota, NotALine, Write, Memory, Ended}
use Rattle.xfs_guard.specs.declared.fail.BootFault.{BootFault}
use Rattle.xfs_lines.specs.Output.BootLines.{IsOfBoot, boot_status, boot_line}
use Rattle.xfs_script.specs.Streams.{Streams, output_of}
use Rattle.xfs_lines.specs.Output.Statuses.{IsCaused, IsStatus}
use Rattle.xfs_lines.specs.declared.output.status.TheConstants.{INPUT_TOO_LONG, NOT_A_LINE, NO_MEMORY, READ_FAULT, READ_TO_END, USAGE, WRITE_FAULT}

-- the line that tells the words that there are
abbrev pub usage_line : List ℕ
usage_line = codes "usage: xfs guard | token | replay | load N | serve N | client CUR AMOUNT | host | audit | fleet"

-- the line that tells which line of the input is none of the command's
abbrev pub no_line_text : ℕ → List ℕ
no_line_text number = codes "line " ++ decimal number ++ codes ": not a script line"

-- the status of an ending
abbrev pub ending_status : Ending BootFault → ℕ
ending_status AtEnd = READ_TO_END
ending_status Read = READ_FAULT
ending_status Quota = INPUT_TOO_LONG
ending_status (NotALine number) = NOT_A_LINE
ending_status Write = WRITE_FAULT
ending_status Memory = NO_MEMORY
ending_status (Ended why) = boot_status why

-- the last line of an ending, where it has one
abbrev pub ending_line : Ending BootFault → List (List ℕ)
ending_line AtEnd = []
ending_line Read = []
ending_line Quota = codes "input: too long" ∷ []
ending_line (NotALine number) = no_line_text number ∷ []
ending_line Write = []
ending_line Memory = []
ending_line (Ended why) = boot_line why

-- the first lines of the input are answered from a state on, each in its turn, until this ending; then comes its last line, and the status is the ending's
pub record EndsInput {S : Type 0} (c : Command S BootFault) (start end : S) (status : ℕ) (io : Streams) (text : List ℕ) : Type 0 where
  pub ending : Ending BootFault
  pub status_is : status ≡ ending_status ending
  pub answered : Option (List ℕ)
  pub answers : AnswersInput c ending start end io.left io.output answered text
  pub last : WritesLast (ending_line ending) (record (output_of io) { held = answered })

-- the command ended at a line as a refused boot does
pub record EndsUnbooted {A S : Type 0} (Keeps : A → A → Type 0) (state : A → S) (c : Command S BootFault) (start : A) (status : ℕ) (end : S) : Type 0 where
  pub why : BootFault
  pub status_is : status ≡ boot_status why
  pub after : EndsAfter Keeps state c start why end

-- the lines of an input were answered to an end, with this status; Keeps relates what answered them before and after, and `state` is what they are answered from
pub record IsAnswered {A S : Type 0} (Keeps : A → A → Type 0) (state : A → S) (c : Command S BootFault) (start end : A) (status : ℕ) (io : Streams) : Type 0 where
  pub keeps : Keeps start end
  pub answers : IfTold io.input (EndsInput c (state start) (state end) status io)
  pub unbooted : IsOfBoot status → EndsUnbooted Keeps state c start status (state end)
  pub lines : status ≡ READ_TO_END → IfTold io.input (AllLines c.IsLine)
  pub not_a_line : status ≡ NOT_A_LINE → IfTold io.input (StopsAtLine c.IsLine)
  pub usage : status ≢ USAGE
  pub statuses : IsStatus status
  pub causes : IsCaused status io
