-- What a command answers to a line of its input, and to one line after another: lines of its output, each ended by a line feed.
use Rattle.std.specs.Prelude.{◌≡◌, ℕ, List, [], ◌∷◌, ◌++◌}
use Rattle.xfs_script.specs.Commands.{Command}
use Rattle.xfs_script.specs.declared.answerer.Unanswered.{Unanswered}
use Rattle.xfs_script.specs.declared.answerer.Unanswered.TheVariants.{NotALine, Memory, Ends}

-- the bytes of lines, a line feed behind each
abbrev pub lines_text : List (List ℕ) → List ℕ
lines_text [] = []
lines_text (line ∷ lines) = line ++ 10 ∷ lines_text lines

-- the bytes are those of the lines that answer
pub record IsAnswerText {S : Type 0} (AreAnswer : List (List ℕ) → S → Type 0) (bytes : List ℕ) (next : S) : Type 0 where
  pub output : List (List ℕ)
  pub answer : AreAnswer output next
  pub text : bytes ≡ lines_text output

-- why a line has no answer: it is none of the command's, and nothing changes; memory ran out, and this is left of it; or the command ends at it
abbrev pub IsUnanswered : {S E : Type 0} → Command S E → S → List ℕ → Unanswered E → S → Type 0
IsUnanswered c s line NotALine next = ¬ (c.IsLine line) × (next ≡ s)
IsUnanswered c s line Memory next = c.Leaves s line next
IsUnanswered c s line (Ends why) next = c.EndsAt s line why next

-- a line is answered, and what follows it behind that
pub record AnswersThen {S : Type 0} (Answers : S → List ℕ → List (List ℕ) → S → Type 0) (Follows : S → List (List ℕ) → Type 0) (state : S) (line : List ℕ) (output : List (List ℕ)) : Type 0 where
  pub answer : List (List ℕ)
  pub next : S
  pub later : List (List ℕ)
  pub answered : Answers state line answer next
  pub follows : Follows next later
  pub joined : output ≡ answer ++ later

-- each line is answered in its turn, from the state that the line before it left; Answers relates a state, a line, the lines of its answer and the next state
abbrev pub AnswersEach : {S : Type 0} → (S → List ℕ → List (List ℕ) → S → Type 0) → S → List (List ℕ) → List (List ℕ) → S → Type 0
AnswersEach Answers state [] output last = (output ≡ []) × (last ≡ state)
AnswersEach Answers state (line ∷ lines) output last = AnswersThen Answers (λ next later. AnswersEach Answers next lines later last) state line output
