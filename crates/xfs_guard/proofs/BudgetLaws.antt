-- Counts that pass the amounts in no currency of the table pass them in none.
use Rattle.std.proofs.Common.{◌≡◌, ℕ, ◌+◌, ◌*◌, ◌≤◌, Bool, true, false, ◌||◌, List, [], ◌∷◌, None, Some, refl, sym, ◌∙◌, ap, arith, true≢false}
use Rattle.std.specs.Prelude.{fold, find, if◌then◌else◌}
use Rattle.std.specs.declared.option.Option.{Option}
use Rattle.std.specs.Option.{option_map, unwrap_or}
use Rattle.std.specs.Str.{bytes_eq}
use Rattle.std.proofs.lemmas.Bool.{ltb-true, ltb-false}
use Rattle.std.proofs.lemmas.Slice.Eq.{bytes_eq-Decides}
use Rattle.xfs_base.specs.Money.{value_at, value_from, value}
use Rattle.xfs_base.specs.declared.counts.Counts.{Counts}
use Rattle.xfs_base.specs.declared.counts.Kind.TheVariants.{Stack, Present, Reject, Retract}
use Rattle.xfs_base.specs.declared.money.NoteKind.{NoteKind}
use Rattle.xfs_token.specs.Token.{Parts}
use Rattle.xfs_token.specs.Amounts.{amount, amounts_of, amount_in, has_currency}
use Rattle.xfs_journal.specs.declared.record.Rec.{Rec}
use Rattle.xfs_journal.specs.declared.record.Rec.TheVariants.{Issue, Clear, Expire, Boot, Start, Bind, Order, Done, Load}
use Rattle.xfs_guard.specs.Presented.{Paid, paid_after, worth_after, done_worth, presented_in}
use Rattle.xfs_guard.specs.OverBudget.{spent, is_over, first_currency, earlier, over_budget_in}

-- a test that holds of a currency and of no unit's
value_at-other : (test : List ℕ → Bool) (k : NoteKind) (x : ℕ) (c : List ℕ) → test c ≡ true → test k.currency ≡ false → value_at k x c ≡ 0
value_at-other test k x c holds fails = go (bytes_eq k.currency c) refl
  where
    go : (t : Bool) → bytes_eq k.currency c ≡ t → (if t then 1000 * k.value * x else 0) ≡ 0
    go false e = refl
    go true e = absurd (true≢false (sym holds ∙ (ap test (sym ((bytes_eq-Decides k.currency c).0 e)) ∙ fails)))

first-none : (test : List ℕ → Bool) (k : NoteKind) (ks : List NoteKind) → first_currency test (k ∷ ks) ≡ None → (test k.currency ≡ false) × (first_currency test ks ≡ None)
first-none test k ks e = go (test k.currency) refl e
  where
    go : (t : Bool) → test k.currency ≡ t → (if t then Some (earlier k.currency (first_currency test ks)) else first_currency test ks) ≡ None → (test k.currency ≡ false) × (first_currency test ks ≡ None)
    go false is e = (is, e)
    go true is e = cc

value-none : (test : List ℕ → Bool) (ks : List NoteKind) (i : ℕ) (counts c : List ℕ) → test c ≡ true → first_currency test ks ≡ None → value_from ks i counts c ≡ 0
value-none test [] i counts c holds e = refl
value-none test (k ∷ ks) i counts c holds e =
    let parts = first-none test k ks e in
    let here = value_at-other test k (Rattle.std.specs.Prelude.slice_index counts i) c holds parts.0 in
    let rest = value-none test ks (i + 1) counts c holds parts.1 in
    omega (arith, here, rest)

done-none : (test : List ℕ → Bool) (u : List NoteKind) (c : List ℕ) (last : Option Rec) (m : Counts) → test c ≡ true → first_currency test u ≡ None → done_worth u c last m ≡ 0
done-none test u c None m holds e = refl
done-none test u c (Some (Issue n w)) m holds e = refl
done-none test u c (Some Clear) m holds e = refl
done-none test u c (Some Expire) m holds e = refl
done-none test u c (Some (Boot p)) m holds e = refl
done-none test u c (Some (Start issues p)) m holds e = refl
done-none test u c (Some (Bind t)) m holds e = refl
done-none test u c (Some (Order Present n)) m holds e = value-none test u 0 m.0 c holds e
done-none test u c (Some (Order Stack n)) m holds e = refl
done-none test u c (Some (Order Reject n)) m holds e = refl
done-none test u c (Some (Order Retract n)) m holds e = refl
done-none test u c (Some (Done n d)) m holds e = refl
done-none test u c (Some (Load i n)) m holds e = refl

worth-none : (test : List ℕ → Bool) (u : List NoteKind) (c : List ℕ) (s : Paid) (r : Rec) → test c ≡ true → first_currency test u ≡ None → s.worth ≡ 0 → worth_after u c s r ≡ 0
worth-none test u c s (Issue n w) holds e z = refl
worth-none test u c s Clear holds e z = refl
worth-none test u c s Expire holds e z = refl
worth-none test u c s (Boot p) holds e z = refl
worth-none test u c s (Start issues p) holds e z = refl
worth-none test u c s (Bind t) holds e z = z
worth-none test u c s (Order k n) holds e z = z
worth-none test u c s (Done m d) holds e z = let w = done-none test u c s.last m holds e in omega (arith, z, w)
worth-none test u c s (Load i n) holds e z = z

presented-none : (test : List ℕ → Bool) (u : List NoteKind) (records : List Rec) (c : List ℕ) → test c ≡ true → first_currency test u ≡ None → presented_in u records c ≡ 0
presented-none test u records c holds e = go (record { last = None; worth = 0 }) records refl
  where
    go : (s : Paid) (records : List Rec) → s.worth ≡ 0 → (fold (paid_after u c) s records).worth ≡ 0
    go s [] z = z
    go s (r ∷ rs) z = go (paid_after u c s r) rs (worth-none test u c s r holds e z)

-- where no currency of the table is exceeded, none is
pub over_budget-none : (u : List NoteKind) (records : List Rec) (T : Counts) (a : List (List ℕ × ℕ)) (n : Counts) → over_budget_in u records T a n ≡ None → (c : List ℕ) → spent u records T c + value u n c ≤ amount_in a c
over_budget-none u records T a n none c = go (test c) refl
  where
    test : List ℕ → Bool
    test = is_over u records T a n

    map-none : {X Y : Type 0} (f : X → Y) (o : Option X) → option_map f o ≡ None → o ≡ None
    map-none f None e = refl
    map-none f (Some x) e = cc

    first : first_currency test u ≡ None
    first = map-none _ (first_currency test u) none

    go : (t : Bool) → test c ≡ t → spent u records T c + value u n c ≤ amount_in a c
    go false is = ltb-false _ _ is
    go true is =
        let p = presented-none test u records c is first in
        let t = value-none test u 0 T.0 c is first in
        let v = value-none test u 0 n.0 c is first in
        let over = ltb-true (amount_in a c) (spent u records T c + value u n c) is in
        absurd (omega (arith, p, t, v, over))

-- amounts have nothing of a currency that isn't among theirs
pub amount_in-none : (a : List (List ℕ × ℕ)) (c : List ℕ) → has_currency c a ≡ false → amount_in a c ≡ 0
unfolding amount_in
amount_in-none [] c e = refl
amount_in-none (x ∷ xs) c e = go (bytes_eq x.0 c) e (amount_in-none xs c)
  where
    go : (t : Bool) → (t || has_currency c xs) ≡ false → (has_currency c xs ≡ false → unwrap_or (option_map (λ (y : List ℕ × ℕ). y.1) (find (λ y. bytes_eq y.0 c) xs)) 0 ≡ 0)
        → unwrap_or (option_map (λ (y : List ℕ × ℕ). y.1) (if t then Some x else find (λ y. bytes_eq y.0 c) xs)) 0 ≡ 0
    go true f rest = absurd (true≢false f)
    go false f rest = rest f

-- the amount of a token whose amounts these are
pub amount-is : (t : Parts) (a : List (List ℕ × ℕ)) (c : List ℕ) → amounts_of t ≡ Some a → amount t c ≡ amount_in a c
unfolding amount
amount-is t a c e = rw e refl
