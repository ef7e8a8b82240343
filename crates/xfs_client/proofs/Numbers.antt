-- Tests of numbers and of truth values, and the first number that passes one.
use Rattle.std.proofs.Common.{◌≡◌, ℕ, zero, suc, ◌+◌, ◌<◌, ◌≤◌, List, [], ◌∷◌, Bool, true, false, cond, ◌&&◌, ◌||◌, ◌==◌, not, nat_le, nat_lt, Some, None, find, Less, Equal, Greater, refl, sym, ◌∙◌, ap, arith}
use Rattle.std.specs.List.{range_with_len}
use Rattle.std.specs.Ordering.{nat_cmp, is_eq}
use Rattle.std.proofs.lemmas.Bool.{false≢true, ne_eqb, ltb-true}

pub is_eq-nat_cmp : (a b : ℕ) → is_eq (nat_cmp a b) ≡ (a == b)
is_eq-nat_cmp a b = by_less (nat_lt a b) refl
  where
    by_less : (t : Bool) → nat_lt a b ≡ t → is_eq (cond t Less (cond (a == b) Equal Greater)) ≡ (a == b)
    by_less true h = sym (ne_eqb a b (λ e. let less = ltb-true a b h in omega (arith, e, less)))
    by_less false h = by_equal (a == b)
      where
        by_equal : (e : Bool) → is_eq (cond e Equal Greater) ≡ e
        by_equal true = refl
        by_equal false = refl

-- the numbers from 1 to n, and the one behind them
pub one_more : (n q : ℕ) → (nat_le 1 q && nat_le q (n + 1)) ≡ ((n + 1 == q) || (nat_le 1 q && nat_le q n))
one_more n q = grind arith

pub find-none : (p : ℕ → Bool) → ((q : ℕ) → p q ≡ false) → (xs : List ℕ) → find p xs ≡ None
find-none p none [] = refl
find-none p none (x ∷ xs) = rw (none x) (find-none p none xs)

pub find-least : (p : ℕ → Bool) (k : ℕ) → p k ≡ true → ((q : ℕ) → p q ≡ true → k ≤ q) → (a n : ℕ) → a ≤ k → k < a + n → find p (range_with_len a n) ≡ Some k
find-least p k here least a zero low high = absurd (omega (arith, low, high))
find-least p k here least a (suc n) low high = by_first (p a) refl (λ other. find-least p k here least (a + 1) n (omega (arith, low, other)) (omega (arith, high)))
  where
    by_first : (t : Bool) → p a ≡ t → ((a ≡ k → ⊥) → find p (range_with_len (a + 1) n) ≡ Some k) → cond t (Some a) (find p (range_with_len (a + 1) n)) ≡ Some k
    by_first true h rest = let le = least a h in ap Some (omega (arith, le, low))
    by_first false h rest = rest (λ same. false≢true (sym h ∙ ap p same ∙ here))

-- an ask that is over
pub waits_never : (i o k : Bool) → cond i false (o && not k) ≡ ((o && not i) && not (k || false))
waits_never true true k = refl
waits_never true false k = refl
waits_never false true true = refl
waits_never false true false = refl
waits_never false false k = refl

pub runs_never : (i o k : Bool) → cond i false (o && k) ≡ ((o && not i) && (k || false))
runs_never true true k = refl
runs_never true false k = refl
runs_never false true true = refl
runs_never false true false = refl
runs_never false false k = refl

-- an ask that was made now, and of which nothing was told
pub waits_anew : (i a e k : Bool) → (i ≡ true → (a ≡ false) × (e ≡ false) × (k ≡ false)) → cond i true ((a && not e) && not k) ≡ (((i || a) && not e) && not k)
waits_anew true a true k h = absurd (false≢true (sym (h refl).1))
waits_anew true a false true h = absurd (false≢true (sym (h refl).2))
waits_anew true a false false h = refl
waits_anew false a e k h = refl

pub runs_as_before : (i a e k : Bool) → (i ≡ true → (a ≡ false) × (e ≡ false) × (k ≡ false)) → ((a && not e) && k) ≡ (((i || a) && not e) && k)
runs_as_before true true e k h = absurd (false≢true (sym (h refl).0))
runs_as_before true false true k h = refl
runs_as_before true false false true h = absurd (false≢true (sym (h refl).2))
runs_as_before true false false false h = refl
runs_as_before false a e k h = refl
