-- An answer of one line, and what is written of it.
use Rattle.std.specs.Prelude.{◌≡◌, ℕ, List, [], ◌∷◌, Result, Ok, Err}
use Rattle.xfs_script.specs.Answered.{lines_text}
use Rattle.xfs_lines.specs.declared.commands.guard.player.NoAnswer.{NoAnswer}
use Rattle.xfs_lines.specs.declared.commands.guard.player.NoAnswer.TheVariants.{Memory}

-- the answer with its line feed, where there is one; else, or where there is no memory for the line feed, want of memory
abbrev pub IsLined : {A E : Type 0} → Result A E → Result A NoAnswer → (A → List ℕ) → Type 0
IsLined (Ok text) (Ok line) items = items line ≡ lines_text (items text ∷ [])
IsLined (Ok text) (Err why) items = why ≡ Memory
IsLined (Err e) (Ok line) items = ⊥
IsLined (Err e) (Err why) items = why ≡ Memory
