-- How a run over the lines of an input ends: which lines were answered, what the sink took, and what stands then.
use Rattle.std.specs.Prelude.{◌≡◌, ℕ, ◌+◌, ◌<◌, ◌≤◌, List, [], ◌++◌, length, take}
use Rattle.std.specs.declared.option.Option.{Option}
use Rattle.std.specs.Io.KnownBytes.{Appends, IsAtEnd}
use Rattle.xfs_base.specs.Causes.{IfTold, Rose}
use Rattle.xfs_script.specs.Answered.{AnswersEach, lines_text}
use Rattle.xfs_script.specs.Lines.{behind, first_line, first_lines, NoLineEnds}
use Rattle.xfs_script.specs.Commands.{Command}
use Rattle.xfs_script.specs.Reading.{GaveAll}
use Rattle.xfs_script.specs.Streams.{Output, Streams}
use Rattle.xfs_script.specs.declared.answerer.Ending.{Ending}
use Rattle.xfs_script.specs.declared.answerer.Ending.TheVariants.{AtEnd, Read, Quota, NotALine, Write, Memory, Ended}
use Rattle.xfs_script.specs.declared.feed.TheConstants.{QUOTA}

-- a line is answered, and the sink took these bytes, which are a prefix of the answer
pub record IsBroken {S : Type 0} (AreAnswer : List (List ℕ) → S → Type 0) (taken : List ℕ) (next : S) : Type 0 where
  pub output : List (List ℕ)
  pub answer : AreAnswer output next
  pub many : ℕ
  pub taken_is : taken ≡ take many (lines_text output)

-- nothing is done behind the lines that are answered
pub record IsUntouched {S : Type 0} (last end : S) (taken : List ℕ) : Type 0 where
  pub same : end ≡ last
  pub none : taken ≡ []

-- a run ends at this line, which has this number, behind a state: the line is none of the command's, the sink broke in its answer, memory ran out at it, or the command ends at it; and this the sink took of its answer
abbrev pub EndsAtLine : {S E : Type 0} → Command S E → Ending E → ℕ → List ℕ → S → S → List ℕ → Type 0
EndsAtLine c (NotALine n) number line last end taken = (n ≡ number) × ¬ (c.IsLine line) × IsUntouched last end taken
EndsAtLine c Write number line last end taken = IsBroken (c.Answers last line) taken end
EndsAtLine c Memory number line last end taken = c.Leaves last line end × (taken ≡ [])
EndsAtLine c (Ended why) number line last end taken = c.EndsAt last line why end × (taken ≡ [])
EndsAtLine c other number line last end taken = ⊥

-- the sink took the answer to a line
pub record WritesAnswer {S : Type 0} (AreAnswer : List (List ℕ) → S → Type 0) (next : S) (o : Output) : Type 0 where
  pub output : List (List ℕ)
  pub answer : AreAnswer output next
  pub written : Appends o.held o.held_now (lines_text output)

-- a run ends at this line, and the sink took so much of its answer
pub record BreaksAtLine {S E : Type 0} (c : Command S E) (number : ℕ) (line : List ℕ) (last end : S) (o : Output) (ending : Ending E) : Type 0 where
  pub taken : List ℕ
  pub ends : EndsAtLine c ending number line last end taken
  pub written : Appends o.held o.held_now taken

-- a run ends behind the first lines of a text: with the text, or where no line ends before the bytes that are left, or at the next line
abbrev pub EndsBehind : {S E : Type 0} → Command S E → Ending E → ℕ → List ℕ → Option (List ℕ) → S → S → List ℕ → Type 0
EndsBehind c AtEnd many text left last end taken = (behind many text ≡ []) × IsUntouched last end taken
EndsBehind c Read many text left last end taken = IfTold left (NoLineEnds many text) × IsUntouched last end taken
EndsBehind c Quota many text left last end taken = IfTold left (NoLineEnds many text) × IsUntouched last end taken
EndsBehind c ending many text left last end taken = EndsAtLine c ending (many + 1) (first_line (behind many text)) last end taken

-- the first lines of a text are answered each in its turn, the sink took their answers, and so the run ended behind them
pub record AnswersInput {S E : Type 0} (c : Command S E) (ending : Ending E) (start end : S) (left before after : Option (List ℕ)) (text : List ℕ) : Type 0 where
  pub many : ℕ
  pub output : List (List ℕ)
  pub last : S
  pub each : AnswersEach c.Answers start (first_lines many text) output last
  pub taken : List ℕ
  pub written : Appends before after (lines_text output ++ taken)
  pub ends : EndsBehind c ending many text left last end taken

-- where the source tells its bytes, the input was answered from a state on until this ending; `state` is what the lines are answered from
abbrev pub AnswersTold : {A S E : Type 0} → (A → S) → Command S E → Ending E → A → A → Streams → Type 0
AnswersTold state c ending start end io = IfTold io.input (AnswersInput c ending (state start) (state end) io.left io.output io.output_now)

-- an ending has its cause in the input or the output: what is left of the input, its length, or a fault
pub record HasEndCause {E : Type 0} (ending : Ending E) (io : Streams) : Type 0 where
  pub whole : ending ≡ AtEnd → IsAtEnd io.left
  pub fewer : ending ≡ AtEnd → IfTold io.input (λ text. length text < QUOTA)
  pub quota : ending ≡ Quota → GaveAll io.input io.left
  pub read : ending ≡ Read → Rose io.read_faults io.read_faults_now
  pub write : ending ≡ Write → Rose io.write_faults io.write_faults_now
  pub sink_later : io.write_faults ≤ io.write_faults_now

-- the command ended at a line, behind what it kept from the start of the run
pub record EndsAfter {A S E : Type 0} (Keeps : A → A → Type 0) (state : A → S) (c : Command S E) (start : A) (why : E) (end : S) : Type 0 where
  pub before : A
  pub keeps : Keeps start before
  pub line : List ℕ
  pub ends : c.EndsAt (state before) line why end
