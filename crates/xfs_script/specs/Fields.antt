-- The fields of a line, one space between them; and amounts, as in a token's dispense values, joined by commas.
use Rattle.std.specs.Prelude.{◌≡◌, ℕ, ◌==◌, List, Some}
use Rattle.std.specs.List.{slice_split}
use Rattle.xfs_token.specs.Amounts.{read_amounts, IsAmounts}

-- what stands between such bytes of a text
abbrev pub pieces : ℕ → List ℕ → List (List ℕ)
pieces byte text = slice_split (λ b. b == byte) text

-- what stands between the spaces of a line
abbrev pub fields : List ℕ → List (List ℕ)
fields text = slice_split (λ b. b == 32) text

-- what stands between the commas of a text
abbrev pub parts : List ℕ → List (List ℕ)
parts text = slice_split (λ b. b == 44) text

-- the parts of the text are these amounts: one to nine, of different currencies
pub record SpellsAmounts (text : List ℕ) (amounts : List (List ℕ × ℕ)) : Type 0 where
  pub each : read_amounts (parts text) ≡ Some amounts
  pub valid : IsAmounts amounts
