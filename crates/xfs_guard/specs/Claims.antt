-- What is seen of a claim: its token's bytes and its amounts.
use Rattle.std.specs.Prelude.{ℕ, List}

-- a token that passed every check, with its amounts
pub record ClaimView : Type 0 where
  pub token : List ℕ
  pub amounts : List (List ℕ × ℕ)
