-- An order that isn't refused may be written.
use Rattle.std.proofs.Common.{◌≡◌, ◌≢◌, inl, inr, ℕ, zero, suc, ◌+◌, ◌-◌, ◌<◌, ◌≤◌, ◌==◌, Bool, true, false, List, [], ◌∷◌, length, None, Some, refl, sym, ◌∙◌, ap, arith, get_or, set}
use Rattle.std.specs.Prelude.{unwrap_or, if◌then◌else◌}
use Rattle.std.specs.declared.option.Option.{Option}
use Rattle.std.specs.Option.{option_and_then, option_or}
use Rattle.std.proofs.lemmas.Bool.{ltb-false, lt-ltb, eq-eqb, cases_lt, cases_eq}
use Rattle.std.proofs.lemmas.List.{get_or-set_other}
use Rattle.std.proofs.lemmas.Grind.{get_or-set_at}
use Rattle.xfs_base.specs.Counts.{at, LiesIn}
use Rattle.xfs_base.specs.Money.{value}
use Rattle.xfs_base.specs.declared.counts.Counts.{Counts}
use Rattle.xfs_base.specs.declared.counts.Kind.{Kind}
use Rattle.xfs_base.specs.declared.counts.Kind.TheVariants.{Stack, Present, Reject, Retract}
use Rattle.xfs_token.specs.Amounts.{amount, amount_in, has_currency}
use Rattle.xfs_journal.specs.declared.record.Rec.{Rec}
use Rattle.xfs_journal.specs.declared.record.Rec.TheVariants.{Order}
use Rattle.xfs_journal.specs.Journal.{record_at, live_of, token_of, last_mark}
use Rattle.xfs_guard.specs.Balance.{no_notes}
use Rattle.xfs_guard.specs.declared.open.Open.TheVariants.{No, Written, Acted}
use Rattle.xfs_guard.specs.declared.deny.Deny.TheVariants.{Short, WrongNonce}
use Rattle.xfs_guard.specs.declared.nonce.Nonce.{Nonce}
use Rattle.xfs_guard.specs.declared.ask.Ask.{Ask}
use Rattle.xfs_guard.specs.declared.ask.Ask.TheVariants.{Stack as AskStack, Present as AskPresent, Reject as AskReject, Retract as AskRetract}
use Rattle.xfs_guard.specs.View.{View}
use Rattle.xfs_guard.specs.Nonce.{nonce_of, live_nonce}
use Rattle.xfs_guard.specs.Presented.{presented_in, pending}
use Rattle.xfs_guard.specs.Budget.{IsFunded}
use Rattle.xfs_guard.specs.Sound.{IsSound, OpenIsNewest}
use Rattle.xfs_guard.specs.Refusals.{notes_of, asked_kind, asked_counts, over_budget, order_refusal, order_refusal_at, stack_refusal}
use Rattle.xfs_token.proofs.AmountBounds.{amount-small}
use Rattle.xfs_guard.proofs.BalanceLaws.{none_there}
use Rattle.xfs_guard.proofs.BudgetLaws.{over_budget-none, amount-is, amount_in-none}
use Rattle.xfs_guard.proofs.RecordLaws.{longer, IsSound-order, released-order}

-- a live nonce is that of a live issue
pub live-number : (records : List Rec) (n : Nonce) → live_nonce records ≡ Some n → (p : ℕ) × (live_of records ≡ Some p)
live-number records n e = go (live_of records) refl e
  where
    go : (l : Option ℕ) → live_of records ≡ l → option_and_then (λ p. nonce_of (record_at records p)) l ≡ Some n → (p : ℕ) × (live_of records ≡ Some p)
    go None is e = cc
    go (Some p) is e = (p, is)

-- fewer notes lie in the unit than are asked for
pub short-refused : (v : View) (issue unit count : ℕ) (n : Nonce) (amounts : List (List ℕ × ℕ)) → live_nonce v.records ≡ Some n → n.number ≡ issue → v.bound ≡ Some amounts → over_budget v amounts (notes_of unit count) ≡ None
    → at v.places.units (unit - 1) < count → order_refusal v (AskStack issue unit count) ≡ Some (Short unit)
short-refused v issue unit count n amounts lives number bound covered short =
    rw (lives, eq-eqb n.number issue number, bound, covered, lt-ltb (at v.places.units (unit - 1)) count short) refl

-- in a currency of which the bound amounts have nothing, nothing was presented while the nonce lives
pub told-live : (v : View) (p : ℕ) → IsSound v → live_of v.records ≡ Some p → (c : List ℕ) → has_currency c (unwrap_or v.bound []) ≡ false → presented_in v.units v.records c ≡ 0
told-live v p s lives c none = go (token_of v.records p) refl
  where
    go : (t : Option (List ℕ)) → token_of v.records p ≡ t → presented_in v.units v.records c ≡ 0
    go None is = (s.budget.unbound p lives is).1 c
    go (Some b) is =
        let f = s.budget.funded p b lives is in
        let nothing = amount_in-none f.amounts c (rw f.kept at none) in
        let whole = amount-is f.token f.amounts c f.amounts_are in
        omega (arith, f.enough c, nothing, whole)

-- bound amounts are those of a bound token
pub bound-token : (v : View) (p : ℕ) (a : List (List ℕ × ℕ)) → IsSound v → live_of v.records ≡ Some p → v.bound ≡ Some a → (b : List ℕ) × (token_of v.records p ≡ Some b)
bound-token v p a s lives bound = go (token_of v.records p) refl
  where
    go : (t : Option (List ℕ)) → token_of v.records p ≡ t → (b : List ℕ) × (token_of v.records p ≡ Some b)
    go None is = let none : Some a ≡ None = sym bound ∙ (s.budget.unbound p lives is).0 in cc
    go (Some b) is = (b, is)

-- an order that takes nothing from a unit asks nothing of the budget
funded-same : (v : View) (k : Kind) (c : Counts) (p : ℕ) (b : List ℕ) → v.open_order ≡ No → k ≢ Stack → IsFunded v p b → IsFunded (record v { open_order = Written k c }) p b
funded-same v k c p b none other f = record {
  token = f.token;
  carries = f.carries;
  amounts = f.amounts;
  amounts_are = f.amounts_are;
  kept = f.kept;
  enough = λ cur. let e = rw none at (f.enough cur) in go k other cur e;
}
  where
    go : (k : Kind) → k ≢ Stack → (cur : List ℕ) → presented_in v.units v.records cur + 0 + value v.units v.places.transport cur + 0 ≤ amount f.token cur
        → presented_in v.units v.records cur + 0 + value v.units v.places.transport cur + pending v.units (Written k c) cur ≤ amount f.token cur
    go Stack other cur e = absurd (other refl)
    go Present other cur e = e
    go Reject other cur e = e
    go Retract other cur e = e

-- an order to stack that passes no amount
funded-stack : (v : View) (c : Counts) (a : List (List ℕ × ℕ)) (p : ℕ) (b : List ℕ) → v.bound ≡ Some a → over_budget v a c ≡ None → IsFunded v p b → IsFunded (record v { open_order = Written Stack c }) p b
funded-stack v c a p b bound fits f = record {
  token = f.token;
  carries = f.carries;
  amounts = f.amounts;
  amounts_are = f.amounts_are;
  kept = f.kept;
  enough = λ cur.
      let same : f.amounts ≡ a = (let e : Some f.amounts ≡ Some a = sym f.kept ∙ bound in cc) in
      let within = over_budget-none v.units v.records v.places.transport a c fits cur in
      let whole = amount-is f.token f.amounts cur f.amounts_are in
      let there = ap (λ x. amount_in x cur) same in
      omega (arith, within, whole, there);
}

set-past : (xs : List ℕ) (i v : ℕ) → length xs ≤ i → set xs i v ≡ xs
set-past [] i v le = refl
set-past (x ∷ xs) zero v le = absurd (omega arith)
set-past (x ∷ xs) (suc i) v le = ap (λ l. x ∷ l) (set-past xs i v (omega arith))

-- the notes of one unit lie where that unit has enough
notes-lie : (unit count : ℕ) (c : Counts) → count ≤ at c (unit - 1) → LiesIn (notes_of unit count) c
notes-lie unit count c le u = elim (cases_lt (unit - 1) 8) [
  | inl low ↦ elim (cases_eq u (unit - 1)) [
    | inl same ↦ (let e = get_or-set_at no_notes.0 (unit - 1) u count 0 same (omega arith) in let f = ap (λ k. at c k) same in omega (arith, e, f, le))
    | inr other ↦ (let e = get_or-set_other no_notes.0 (unit - 1) u count 0 other in let z = none_there u in omega (arith, e, z))
  ]
  | inr past ↦ (let e = ap (λ l. get_or l u 0) (set-past no_notes.0 (unit - 1) count past) in let z = none_there u in omega (arith, e, z))
]

-- an order that isn't refused may be written
pub IsSound-asked : (v : View) (ask : Ask) → IsSound v → v.open_order ≡ No → order_refusal v ask ≡ None
    → IsSound (longer v (Order (asked_kind ask) (asked_counts v ask)) v.bound (Written (asked_kind ask) (asked_counts v ask)))
IsSound-asked v AskReject s none fine = IsSound-order v Reject v.places.transport s none (λ u. omega arith) tt
    (λ p b l t. funded-same v Reject v.places.transport p b none (λ e. cc) (s.budget.funded p b l t))
IsSound-asked v AskRetract s none fine = IsSound-order v Retract v.places.outlet s none (λ u. omega arith) tt
    (λ p b l t. funded-same v Retract v.places.outlet p b none (λ e. cc) (s.budget.funded p b l t))
IsSound-asked v AskPresent s none fine = go (live_nonce v.records) v.bound refl refl fine
  where
    go : (n : Option Nonce) (a : Option (List (List ℕ × ℕ))) → live_nonce v.records ≡ n → v.bound ≡ a → order_refusal_at (record v { bound = a }) AskPresent n ≡ None
        → IsSound (longer v (Order Present v.places.transport) v.bound (Written Present v.places.transport))
    go None a is bound fine = cc
    go (Some n) None is bound fine = cc
    go (Some n) (Some a) is bound fine =
        let live = live-number v.records n is in
        let token = bound-token v live.0 a s live.1 bound in
        IsSound-order v Present v.places.transport s none (λ u. omega arith) (released-order v.records v.places.transport live.0 token.0 live.1 token.1)
        (λ p b l t. funded-same v Present v.places.transport p b none (λ e. cc) (s.budget.funded p b l t))
IsSound-asked v (AskStack issue unit count) s none fine = go (live_nonce v.records) v.bound refl refl fine
  where
    or-none : {X : Type 0} (x y : Option X) → option_or x y ≡ None → (x ≡ None) × (y ≡ None)
    or-none None y e = (refl, e)
    or-none (Some x) y e = cc

    enough : (t : Bool) → (if t then Some (Short unit) else None) ≡ None → t ≡ false
    enough true e = cc
    enough false e = refl

    fits : (a : List (List ℕ × ℕ)) → v.bound ≡ Some a → stack_refusal v unit count (Some a) ≡ None
        → IsSound (longer v (Order Stack (notes_of unit count)) v.bound (Written Stack (notes_of unit count)))
    fits a bound fine =
        let parts = or-none (over_budget v a (notes_of unit count)) _ fine in
        let held = ltb-false (at v.places.units (unit - 1)) count (enough _ parts.1) in
        IsSound-order v Stack (notes_of unit count) s none (notes-lie unit count v.places.units held) tt
        (λ p b l t. funded-stack v (notes_of unit count) a p b bound parts.0 (s.budget.funded p b l t))

    right : (t : Bool) (a : Option (List (List ℕ × ℕ))) → v.bound ≡ a → (if t then stack_refusal v unit count a else Some (WrongNonce (last_mark v.records))) ≡ None
        → IsSound (longer v (Order Stack (notes_of unit count)) v.bound (Written Stack (notes_of unit count)))
    right false a bound fine = cc
    right true None bound fine = cc
    right true (Some a) bound fine = fits a bound fine

    go : (n : Option Nonce) (a : Option (List (List ℕ × ℕ))) → live_nonce v.records ≡ n → v.bound ≡ a → order_refusal_at (record v { bound = a }) (AskStack issue unit count) n ≡ None
        → IsSound (longer v (Order Stack (notes_of unit count)) v.bound (Written Stack (notes_of unit count)))
    go None a is bound fine = cc
    go (Some n) a is bound fine = right (n.number == issue) a bound fine

-- what an order to present put out is small, since the budget covers it
pub small-done : (v : View) (k : Kind) (m d : Counts) (failed : Bool) → IsSound v → v.open_order ≡ Acted k m d failed → k ≡ Present
    → (c : List ℕ) → presented_in v.units v.records c + value v.units m c ≤ 999999999999
small-done v Stack m d failed s acted is c = cc
small-done v Reject m d failed s acted is c = cc
small-done v Retract m d failed s acted is c = cc
small-done v Present m d failed s acted is c =
    let stands : OpenIsNewest (Acted Present m d failed) v.records v.places = rw acted at s.stands in
    let r = stands.2 in
    let f = s.budget.funded r.number r.bytes r.lives r.bound in
    let e = rw acted at (f.enough c) in
    let most = amount-small f.token c in
    omega (arith, e, most)
