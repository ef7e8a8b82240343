-- How a load ends once its machine has booted: it is played whole and its line is told, or memory runs out.
use Rattle.std.specs.Prelude.{◌≡◌, ◌⊎◌, ℕ, List, [], ◌∷◌}
use Rattle.std.specs.Io.KnownBytes.{Appends}
use Rattle.xfs_base.specs.Causes.{Rose, TookPrefix}
use Rattle.xfs_load.specs.Plays.{RoundsInPart}
use Rattle.xfs_load.specs.Summaries.{IsSummary, summary_line}
use Rattle.xfs_load.specs.declared.summary.Summary.{Summary}
use Rattle.xfs_model.specs.State.{State}
use Rattle.xfs_script.specs.Answered.{lines_text}
pub use Rattle.xfs_script.specs.Streams.{Output, output}
use Rattle.xfs_lines.specs.declared.output.status.TheConstants.{NO_MEMORY, READ_TO_END, WRITE_FAULT}

-- the whole text was written, or the sink failed and took a prefix of it
pub record WritesOrFails (text : List ℕ) (status : ℕ) (o : Output) : Type 0 where
  pub status_is : status ≡ READ_TO_END
  pub appends : Appends o.held o.held_now text

pub record IsCutOff (text : List ℕ) (status : ℕ) (o : Output) : Type 0 where
  pub status_is : status ≡ WRITE_FAULT
  pub cause : Rose o.faults o.faults_now
  pub took : TookPrefix o.held o.held_now text

abbrev pub WritesText : List ℕ → ℕ → Output → Type 0
WritesText text status o = WritesOrFails text status o ⊎ IsCutOff text status o

-- memory ran out before, and nothing is written
pub record IsSilent (status : ℕ) (o : Output) : Type 0 where
  pub status_is : status ≡ NO_MEMORY
  pub silent : o.held_now ≡ o.held

abbrev pub WritesTextOrNot : List ℕ → ℕ → Output → Type 0
WritesTextOrNot text status o = WritesText text status o ⊎ IsSilent status o

-- the rounds were played, and the line that tells their summary was written
pub record IsPlayed (key : List ℕ) (rounds : ℕ) (s new : State) (status : ℕ) (o : Output) : Type 0 where
  pub summary : Summary
  pub sums : IsSummary key rounds s new summary
  pub tells : WritesText (lines_text (summary_line summary ∷ [])) status o

-- the rounds were played and nothing is told of them
pub record IsUntold (key : List ℕ) (rounds : ℕ) (s new : State) : Type 0 where
  pub summary : Summary
  pub sums : IsSummary key rounds s new summary

-- memory ran out: the first of the rounds' calls were made, or all of them, and nothing is written
pub record RunsOut (key : List ℕ) (rounds : ℕ) (s new : State) (status : ℕ) (o : Output) : Type 0 where
  pub silent : IsSilent status o
  pub played : RoundsInPart key rounds s new ⊎ IsUntold key rounds s new

abbrev pub EndsLoad : List ℕ → ℕ → State → State → ℕ → Output → Type 0
EndsLoad key rounds s new status o = IsPlayed key rounds s new status o ⊎ RunsOut key rounds s new status o
