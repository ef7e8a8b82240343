-- What is seen of a tally: how many calls were made with it.
use Rattle.std.specs.Prelude.{ℕ}

pub record TallyView : Type 0 where
  pub posts : ℕ
  pub touches : ℕ
  pub works : ℕ
  pub outboxes : ℕ
