-- The lines of the command `fleet`: the letter of a side, a space, and behind these two bytes a line of `replay`; and the lines of one side.
use Rattle.std.specs.Prelude.{◌≡◌, ℕ, Bool, nat_eq, List, [], ◌∷◌, ◌++◌, drop, filter, map}
use Rattle.std.specs.List.{starts_with}
use Rattle.xfs_script.specs.Words.{IsSkipped}
use Rattle.xfs_script.specs.ReplayLines.{IsReplayLine}
use Rattle.xfs_script.specs.declared.fleet_line.FleetLine.{FleetLine}
use Rattle.xfs_script.specs.declared.fleet_line.FleetLine.TheVariants.{Skip, A, B}

-- the letters of the sides, `a` and `b`
abbrev pub letter_a : ℕ
letter_a = 97

abbrev pub letter_b : ℕ
letter_b = 98

-- what stands in letter_mark of a side's lines
abbrev pub letter_mark : ℕ → List ℕ
letter_mark letter = letter ∷ 32 ∷ []

abbrev pub is_of_side : ℕ → List ℕ → Bool
is_of_side letter line = starts_with nat_eq line (letter_mark letter)

-- a side's lines, without these two bytes, in order
abbrev pub side : ℕ → List (List ℕ) → List (List ℕ)
side letter lines = map (drop 2) (filter (is_of_side letter) lines)

-- the two bytes of a side, and this of what stands behind them
pub record IsOf (letter : ℕ) (IsBehind : List ℕ → Type 0) (text : List ℕ) : Type 0 where
  pub behind : List ℕ
  pub text_is : text ≡ letter_mark letter ++ behind
  pub is : IsBehind behind

-- the text is this line
abbrev pub IsFleetLine : List ℕ → FleetLine → Type 0
IsFleetLine text Skip = IsSkipped text
IsFleetLine text (A line) = IsOf letter_a (λ behind. IsReplayLine behind line) text
IsFleetLine text (B line) = IsOf letter_b (λ behind. IsReplayLine behind line) text
