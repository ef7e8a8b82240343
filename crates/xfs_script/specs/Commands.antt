-- A command that reads lines: which they are, and what answers each.
use Rattle.std.specs.Prelude.{ℕ, List}

-- S is what the answers tell and change, and E the reasons that the command has to end at a line
pub record Command (S E : Type 0) : Type 1 where
  -- its lines
  pub IsLine : List ℕ → Type 0
  -- the lines that answer a line from a state, and the state then
  pub Answers : S → List ℕ → List (List ℕ) → S → Type 0
  -- the state that want of memory may leave of a line, whose answer isn't written then
  pub Leaves : S → List ℕ → S → Type 0
  -- the lines at which it ends, for what reason, and the state then
  pub EndsAt : S → List ℕ → E → S → Type 0
