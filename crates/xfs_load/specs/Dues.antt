-- What is due to an ask and tells its client nothing: whatever the client has kept, it hears such a text and keeps the same.
use Rattle.std.specs.Prelude.{◌≡◌, ℕ, List, IfSome}
use Rattle.xfs_load.specs.Generator.{Client, hears}
use Rattle.xfs_load.specs.declared.ask.Ask.{Ask}
use Rattle.xfs_load.specs.declared.due.Due.{Due}

abbrev pub TellsNothing : Ask → List ℕ → Type 0
TellsNothing ask text = (c : Client) → hears ask c text ≡ c

-- both texts tell nothing
pub record IsDueTo (ask : Ask) (due : Due) : Type 0 where
  pub acknowledge : TellsNothing ask due.acknowledge.items
  pub success : IfSome due.success (λ text. TellsNothing ask text.items)
