-- What contracts see of a seat, and of a value that is held.
use Rattle.std.specs.Prelude.{List}
use Rattle.atomic_table.specs.Seated.{TableId}

-- a seat of this lock, which has seen this list
pub record Seated (E : Type 0) : Type 0 where
  pub lock : TableId
  pub seen : List E

-- the value of this lock as it is, whose list was this one when the turn was taken
pub record Holding (T E : Type 0) : Type 0 where
  pub lock : TableId
  pub found : List E
  pub value : T
