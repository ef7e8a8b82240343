-- The index of deadlines: its first entry, and what stays in order.
use Rattle.std.proofs.Common.{◌≡◌, ℕ, ◌≤◌, List, [], ◌∷◌, Option, All, Contains, MatchOption, slice_get, insert, subst, sym, refl, arith}
use Rattle.std.specs.List.Sorted.{IsNonDecreasingBy}
use Rattle.std.proofs.lemmas.List.Sorted.{IsNonDecreasingBy-insert}
use Rattle.xfs_queue.specs.declared.deadlines.Entry.{Entry}
use Rattle.xfs_queue.specs.Deadlines.{IsPlace}

abbrev pub IsInOrder : List Entry → Type 0
IsInOrder xs = IsNonDecreasingBy (λ e. e.deadline) xs

abbrev pub IsLeast : List Entry → Option Entry → Type 0
IsLeast xs r = MatchOption r (xs ≡ []) (λ e. Contains xs e × All (λ f. e.deadline ≤ f.deadline) xs)

pub first_least : (xs : List Entry) (r : Option Entry) → r ≡ slice_get xs 0 → IsInOrder xs → IsLeast xs r
first_least [] r e order = subst (λ r. IsLeast [] r) (sym e) refl
first_least (x ∷ xs) r e order =
    subst (λ r. IsLeast (x ∷ xs) r) (sym e) ((0, omega arith, refl), λ k d within. order 0 k d (omega arith) within)

pub in_order_after_insert : (xs : List Entry) (at : ℕ) (e : Entry) → IsInOrder xs → IsPlace xs e.deadline at → IsInOrder (insert xs at e)
in_order_after_insert xs at e order place =
    IsNonDecreasingBy-insert (λ (e : Entry). e.deadline) xs at e order place.within place.before place.after
