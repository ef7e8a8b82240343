-- The lines of the command `guard`: the bytes that write each verb with its fields.
use Rattle.std.specs.Prelude.{◌≡◌, ℕ, ◌≤◌, List, ◌++◌, codes, decimal}
use Rattle.xfs_script.specs.Words.{IsSkipped}
use Rattle.xfs_script.specs.Fields.{SpellsAmounts}
use Rattle.xfs_script.specs.Dispense.{IsDispense}
use Rattle.xfs_script.specs.declared.guard_line.GuardLine.{GuardLine}
use Rattle.xfs_script.specs.declared.guard_line.GuardLine.TheVariants.{Skip, Issue, Clear, Mint, Dispense, Fill, Present, Reject, Retract, Take, Restart, Show}

-- `mint` and the amounts, one space between them
pub record IsMint (text : List ℕ) (amounts : List (List ℕ × ℕ)) : Type 0 where
  pub field : List ℕ
  pub line : text ≡ codes "mint " ++ field
  pub spells : SpellsAmounts field amounts

-- `fill`, a unit from 1 to 8, and a count from 1 to 10,000
pub record IsFill (text : List ℕ) (unit count : ℕ) : Type 0 where
  pub line : text ≡ codes "fill unit" ++ decimal unit ++ codes " " ++ decimal count
  pub first : 1 ≤ unit
  pub last : unit ≤ 8
  pub low : 1 ≤ count
  pub high : count ≤ 10000

-- the text is this line
abbrev pub IsGuardLine : List ℕ → GuardLine → Type 0
IsGuardLine text Skip = IsSkipped text
IsGuardLine text Issue = text ≡ codes "issue"
IsGuardLine text Clear = text ≡ codes "clear"
IsGuardLine text (Mint amounts) = IsMint text amounts
IsGuardLine text (Dispense token counts) = IsDispense text token counts
IsGuardLine text (Fill unit count) = IsFill text unit count
IsGuardLine text Present = text ≡ codes "present"
IsGuardLine text Reject = text ≡ codes "reject"
IsGuardLine text Retract = text ≡ codes "retract"
IsGuardLine text Take = text ≡ codes "take"
IsGuardLine text Restart = text ≡ codes "restart"
IsGuardLine text Show = text ≡ codes "show"

-- the text is a line of `guard` that has no fields
abbrev pub IsWordLine : List ℕ → GuardLine → Type 0
IsWordLine text (Mint amounts) = ⊥
IsWordLine text (Dispense token counts) = ⊥
IsWordLine text (Fill unit count) = ⊥
IsWordLine text line = IsGuardLine text line
