-- The kinds of step, each by the word that it moves and by what the seat knows afterwards. Whatever state between two steps it finds, it keeps the rule.
use Rattle.std.specs.Prelude.{ℕ, ◌==◌, List, [], ◌∷◌, length}
use mathlib.Core.List.{IsPrefix}
use mathlib.Core.Option.{none}
use prog.Atomic.{either}
use Rattle.atomic_table.specs.Table.{Allows, Splits, Joins, step}
use Rattle.xfs_turn.specs.declared.rule.Cell.TheVariants.{Home}
use Rattle.xfs_turn.specs.Turns.{IsKept, knows, holder, joined, Took, Counted, Gave, Learned}

module _ {T E : Type 0} (list : T → List E) where
  -- word 0 from 0 to 1: the seat has the turn, with the value in hand; another content stays, and so does what the seat knows
  abbrev pub CanTake : Type 0
  CanTake = (slots id : ℕ) (seen : List E)
      → Allows (IsKept list) slots id (knows seen, []) 0 (λ n. either (n == 0) 1 n) (Took list (step slots 0 0 1 none) (knows seen, []))

  -- word 1 to the length of the list of the value in hand: the seat has seen this list
  abbrev pub CanCount : Type 0
  CanCount = (slots id : ℕ) (base seen : List E) (x : T) → IsPrefix base (list x)
      → Allows (IsKept list) slots id (holder base seen, (0, Home x) ∷ []) 1 (λ _. length (list x))
      (λ _. Counted list (step slots 1 (length (list x)) 0 none) (holder base seen, (0, Home x) ∷ []) (length (list x)))

  -- word 0 to 0: the value is at home, and the seat no longer has the turn
  abbrev pub CanGive : Type 0
  CanGive = (slots id : ℕ) (base : List E) (x : T) → IsPrefix base (list x)
      → Allows (IsKept list) slots id (holder base (list x), (0, Home x) ∷ []) 0 (λ _. 0)
      (λ _. Gave list (step slots 0 0 0 none) (holder base (list x), (0, Home x) ∷ []) 0)

  -- word 0 is read: a new seat knows the same
  abbrev pub CanSplit : Type 0
  CanSplit = (id : ℕ) (seen : List E) → Splits (IsKept list) id (knows seen) (knows seen) (knows seen)

  -- word 0 is read: the kept seat knows both lists, and the spent one none
  abbrev pub CanJoin : Type 0
  CanJoin = (id other : ℕ) (xs ys : List E) → Joins (IsKept list) id (knows xs) other (knows ys) (joined (knows xs) (knows ys)) (knows [])

  -- word 0 is read: both lists that were joined begin the longer one
  abbrev pub CanLearn : Type 0
  CanLearn = (slots id : ℕ) (xs ys : List E)
      → Allows (IsKept list) slots id (joined (knows xs) (knows ys), []) 0 (λ n. n) (Learned list (step slots 0 0 0 none) (joined (knows xs) (knows ys), []))
