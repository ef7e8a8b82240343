-- The rule of the lock, over its two words, its slot and what each seat knows: one seat at most has the turn, word 1 is the length of the list, and what each seat has seen begins it.
use Rattle.std.specs.Prelude.{◌≡◌, ◌≢◌, ◌⊎◌, ◌≤◌, ◌==◌, ℕ, true, false, List, [], ◌∷◌, length, slice_index, nat_le, if◌then◌else◌, MatchBool}
use mathlib.Core.List.{IsPrefix}
use mathlib.Core.Option.{some, none}
use lib.ListN.{get_elem?}
use Rattle.atomic_table.specs.Table.{State, Me, Step}
use Rattle.xfs_turn.specs.declared.rule.Cell.{Cell}
use Rattle.xfs_turn.specs.declared.rule.Cell.TheVariants.{Home, Out}
use Rattle.xfs_turn.specs.declared.rule.Knowledge.{Knowledge}

module _ {E : Type 0} where
  -- the longer of two lists
  abbrev pub longer : List E → List E → List E
  longer xs ys = if nat_le (length xs) (length ys) then ys else xs

  -- a seat that has seen this list and doesn't have the turn
  abbrev pub knows : List E → Knowledge E
  knows seen = record { seen = seen; holds = false; base = []; first = []; second = [] }

  -- a seat that took the turn at the list base
  abbrev pub holder : List E → List E → Knowledge E
  holder base seen = record { seen = seen; holds = true; base = base; first = []; second = [] }

  -- two seats in one
  abbrev pub joined : Knowledge E → Knowledge E → Knowledge E
  joined v w = record { seen = longer v.seen w.seen; holds = v.holds; base = []; first = v.seen; second = w.seen }

  -- a seat that doesn't have the turn, and whose lists begin this one
  pub record Waits (all : List E) (v : Knowledge E) : Type 0 where
    pub idle : v.holds ≡ false
    pub seen : IsPrefix v.seen all
    pub first : IsPrefix v.first all
    pub second : IsPrefix v.second all

module _ {T E : Type 0} where
  -- the seat at this place has the turn
  abbrev pub HasTurn : State (Cell T) (Knowledge E) → ℕ → Knowledge E → Type 0
  HasTurn s i v = (get_elem? s.views i ≡ some v) × (v.holds ≡ true)

module _ {T E : Type 0} (list : T → List E) where
  -- the value is at home, and every seat has seen a beginning of its list
  pub record IsFree (s : State (Cell T) (Knowledge E)) : Type 0 where
    pub value : T
    pub words : s.words ≡ 0 ∷ length (list value) ∷ []
    pub home : s.homes ≡ some (Home value) ∷ []
    pub waits : (i : ℕ) (v : Knowledge E) → get_elem? s.views i ≡ some v → Waits (list value) v

  -- one seat has the turn and the value, and every other has seen a beginning of the list that it found
  pub record IsOut (s : State (Cell T) (Knowledge E)) : Type 0 where
    pub seat : ℕ
    pub held : Knowledge E
    pub words : s.words ≡ 1 ∷ length held.seen ∷ []
    pub home : s.homes ≡ none ∷ []
    pub at : get_elem? s.views seat ≡ some held
    pub holds : held.holds ≡ true
    pub grown : IsPrefix held.base held.seen
    pub waits : (i : ℕ) (v : Knowledge E) → get_elem? s.views i ≡ some v → i ≢ seat → Waits held.base v

  abbrev pub IsKept : State (Cell T) (Knowledge E) → Type 0
  IsKept s = IsFree s ⊎ IsOut s

  -- the seat has the turn, with this value in hand
  abbrev pub HasValue : T → Me (Cell T) (Knowledge E) → Type 0
  HasValue x m = m ≡ (holder (list x) (list x), (0, Home x) ∷ [])

  -- the turn and the value were taken, and what the seat had seen begins its list; or another has it
  abbrev pub Took : Step (Cell T) → Me (Cell T) (Knowledge E) → ℕ → Me (Cell T) (Knowledge E) → Type 0
  Took s m found n = MatchBool (found == 0)
      ((x : T) × HasValue x n × IsPrefix m.0.seen (list x))
      (n ≡ m)

  -- the list of the value in hand
  abbrev pub in_hand : List (ℕ × Cell T) → List E
  in_hand [] = []
  in_hand ((k, Home x) ∷ rest) = list x
  in_hand ((k, Out) ∷ rest) = []

  -- the seat has seen the list of the value in hand
  abbrev pub Counted : Step (Cell T) → Me (Cell T) (Knowledge E) → ℕ → Me (Cell T) (Knowledge E) → Type 0
  Counted s m found n = n ≡ (holder m.0.base (in_hand m.1), m.1)

  -- the value is at home again, and the seat has seen what it had
  abbrev pub Gave : Step (Cell T) → Me (Cell T) (Knowledge E) → ℕ → Me (Cell T) (Knowledge E) → Type 0
  Gave s m found n = n ≡ (knows m.0.seen, [])

  -- both lists that were joined begin what is seen
  abbrev pub Learned : Step (Cell T) → Me (Cell T) (Knowledge E) → ℕ → Me (Cell T) (Knowledge E) → Type 0
  Learned s m found n = (n ≡ (knows m.0.seen, m.1)) × IsPrefix m.0.first m.0.seen × IsPrefix m.0.second m.0.seen

  -- what the rule says of any state between two steps
  pub record HasParts (s : State (Cell T) (Knowledge E)) : Type 0 where
    -- word 0 is 1 exactly where a seat has the turn
    pub taken : slice_index s.words 0 ≡ 1 → (i : ℕ) × (v : Knowledge E) × HasTurn s i v
    pub marked : (i : ℕ) (v : Knowledge E) → HasTurn s i v → slice_index s.words 0 ≡ 1
    -- no second seat has the turn
    pub alone : (i j : ℕ) (v w : Knowledge E) → HasTurn s i v → HasTurn s j w → i ≡ j
    -- no seat has seen more than word 1 says
    pub counted : (i : ℕ) (v : Knowledge E) → get_elem? s.views i ≡ some v → length v.seen ≤ slice_index s.words 1
    -- what two seats have seen are beginnings one of the other
    pub ordered : (i j : ℕ) (v w : Knowledge E) → get_elem? s.views i ≡ some v → get_elem? s.views j ≡ some w → IsPrefix v.seen w.seen ⊎ IsPrefix w.seen v.seen
    -- where the value is at home, word 1 is the length of its list, which every seat has seen a beginning of
    pub length_is : (x : T) → s.homes ≡ some (Home x) ∷ [] → length (list x) ≡ slice_index s.words 1
    pub begun : (x : T) (i : ℕ) (v : Knowledge E) → s.homes ≡ some (Home x) ∷ [] → get_elem? s.views i ≡ some v → IsPrefix v.seen (list x)
    -- where a seat has it, every other seat has seen a beginning of the list that this one found
    pub behind : (i j : ℕ) (v w : Knowledge E) → HasTurn s i v → get_elem? s.views j ≡ some w → j ≢ i → IsPrefix w.seen v.base
