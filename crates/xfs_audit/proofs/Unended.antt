-- The commands that no completion ended, with one accepted or one ended more.
use Rattle.std.proofs.Common.{◌≡◌, ◌<◌, ◌+◌, ◌==◌, ◌||◌, ℕ, zero, suc, Bool, true, false, List, [], ◌∷◌, ◌++◌, length, Some, refl, ap, sym, ◌∙◌, arith, subst, inl, inr}
use Rattle.std.specs.List.{slice_get}
use Rattle.std.proofs.lemmas.Bool.{cases_Bool, eq-eqb, ne_eqb}
use Rattle.std.proofs.lemmas.List.Folds.{list_any-append}
use Rattle.xfs_conversation.specs.Pending.{Pending}
use Rattle.xfs_audit.specs.Conversing.{IsWithout}
use Rattle.xfs_audit.specs.Fitting.{is_among, unended}

pub among-push : (ended : List ℕ) (k n : ℕ) → is_among (ended ++ k ∷ []) n ≡ (is_among ended n || (k == n))
among-push ended k n = list_any-append (λ i. i == n) ended (k ∷ []) ∙ last (k == n)
  where
    last : (b : Bool) → (is_among ended n || (b || false)) ≡ (is_among ended n || b)
    last true = refl
    last false = refl

pub among-other : (ended : List ℕ) (k n : ℕ) → (k ≡ n → ⊥) → is_among ended n ≡ false → is_among (ended ++ k ∷ []) n ≡ false
among-other ended k n differ not = among-push ended k n ∙ (rw (not, ne_eqb k n differ) refl)

among-same : (ended : List ℕ) (k n : ℕ) → (k ≡ n → ⊥) → is_among (ended ++ k ∷ []) n ≡ is_among ended n
among-same ended k n differ = among-push ended k n ∙ (rw (ne_eqb k n differ) (or-false (is_among ended n)))
  where
    or-false : (b : Bool) → (b || false) ≡ b
    or-false true = refl
    or-false false = refl

among-it : (ended : List ℕ) (k : ℕ) → is_among (ended ++ k ∷ []) k ≡ true
among-it ended k = among-push ended k k ∙ (rw (eq-eqb k k refl) (or-true (is_among ended k)))
  where
    or-true : (b : Bool) → (b || true) ≡ true
    or-true true = refl
    or-true false = refl

-- one more that is accepted
pub unended-push : (n : ℕ) (ended : List ℕ) (ps : List Pending) (p : Pending) → is_among ended (n + length ps) ≡ false → unended n ended (ps ++ p ∷ []) ≡ unended n ended ps ++ p ∷ []
unended-push n ended [] p not =
    let here : n + 0 ≡ n = omega arith in
    rw (subst (λ m. is_among ended m ≡ false) here not) refl
unended-push n ended (q ∷ ps) p not =
    let next : n + length (q ∷ ps) ≡ n + 1 + length ps = omega arith in
    let rest = unended-push (n + 1) ended ps p (subst (λ m. is_among ended m ≡ false) next not) in
    elim (cases_Bool (is_among ended n)) [
      | inl y ↦ rw y rest
      | inr m ↦ rw m (ap (λ l. q ∷ l) rest)
    ]

-- a number below those that are counted
unended-below : (n : ℕ) (ended : List ℕ) (k : ℕ) (ps : List Pending) → k < n → unended n (ended ++ k ∷ []) ps ≡ unended n ended ps
unended-below n ended k [] below = refl
unended-below n ended k (p ∷ ps) below =
    let same = among-same ended k n (λ e. absurd (omega arith)) in
    let rest = unended-below (n + 1) ended k ps (omega arith) in
    elim (cases_Bool (is_among ended n)) [
      | inl y ↦ rw (same, y) rest
      | inr m ↦ rw (same, m) (ap (λ l. p ∷ l) rest)
    ]

-- one more that is ended
pub unended-without : (n : ℕ) (ended : List ℕ) (ps : List Pending) (k : ℕ) (p : Pending) → slice_get ps k ≡ Some p → is_among ended (n + k) ≡ false → IsWithout p (unended n ended ps) (unended n (ended ++ (n + k) ∷ []) ps)
unended-without n ended [] k p there not = absurd cc
unended-without n ended (q ∷ ps) zero p there not =
    let here : n + 0 ≡ n = omega arith in
    let open_now : is_among ended n ≡ false = subst (λ m. is_among ended m ≡ false) here not in
    let same : q ≡ p = cc in
    rw (here, open_now, among-it ended n) record { before = []; later = unended (n + 1) ended ps; was = ap (λ x. x ∷ unended (n + 1) ended ps) same; is = unended-below (n + 1) ended n ps (omega arith) }
unended-without n ended (q ∷ ps) (suc k) p there not =
    let next : n + suc k ≡ n + 1 + k = omega arith in
    let r = unended-without (n + 1) ended ps k p there (subst (λ m. is_among ended m ≡ false) next not) in
    let same = among-same ended (n + 1 + k) n (λ e. absurd (omega arith)) in
    rw next (elim (cases_Bool (is_among ended n)) [
      | inl y ↦ rw (same, y) r
      | inr m ↦ rw (same, m) record { before = q ∷ r.before; later = r.later; was = ap (λ l. q ∷ l) r.was; is = ap (λ l. q ∷ l) r.is }
    ])

-- the number of one that isn't ended
pub record IsFound (n : ℕ) (ended : List ℕ) (ps : List Pending) (p : Pending) (rest : List Pending) : Type 0 where
  pub number : ℕ
  pub there : slice_get ps number ≡ Some p
  pub not_ended : is_among ended (n + number) ≡ false
  pub rest_is : unended n (ended ++ (n + number) ∷ []) ps ≡ rest

pub unended-found : (n : ℕ) (ended : List ℕ) (ps : List Pending) (p : Pending) (before later : List Pending) → unended n ended ps ≡ before ++ p ∷ later → IsFound n ended ps p (before ++ later)
unended-found n ended [] p [] later e = absurd cc
unended-found n ended [] p (q ∷ before) later e = absurd cc
unended-found n ended (q ∷ ps) p before later e = elim (cases_Bool (is_among ended n)) [
  | inl y ↦ passed (unended-found (n + 1) ended ps p before later (rw y at e)) y
  | inr m ↦ at_first before (λ front same. unended-found (n + 1) ended ps p front later same) (rw m at e) m
]
  where
    next : (k : ℕ) → n + suc k ≡ n + 1 + k
    next k = omega arith

    passed : {rest : List Pending} → IsFound (n + 1) ended ps p rest → is_among ended n ≡ true → IsFound n ended (q ∷ ps) p rest
    passed r y = record {
      number = suc r.number;
      there = r.there;
      not_ended = subst (λ m. is_among ended m ≡ false) (sym (next r.number)) r.not_ended;
      rest_is = rw (next r.number, among-same ended (n + 1 + r.number) n (λ e. absurd (omega arith)), y) r.rest_is;
    }

    at_first : (front : List Pending) → ((f : List Pending) → unended (n + 1) ended ps ≡ f ++ p ∷ later → IsFound (n + 1) ended ps p (f ++ later)) → q ∷ unended (n + 1) ended ps ≡ front ++ p ∷ later → is_among ended n ≡ false → IsFound n ended (q ∷ ps) p (front ++ later)
    at_first [] find e m =
        let here : n + 0 ≡ n = omega arith in
        let tail : unended (n + 1) ended ps ≡ later = cc in
        record {
          number = 0;
          there = cc;
          not_ended = subst (λ i. is_among ended i ≡ false) (sym here) m;
          rest_is = rw (here, among-it ended n) (unended-below (n + 1) ended n ps (omega arith) ∙ tail);
        }
    at_first (f ∷ front) find e m =
        let first : q ≡ f = cc in
        let r = find front (cc) in
        record {
          number = suc r.number;
          there = r.there;
          not_ended = subst (λ i. is_among ended i ≡ false) (sym (next r.number)) r.not_ended;
          rest_is = rw (next r.number, among-same ended (n + 1 + r.number) n (λ e. absurd (omega arith)), m) (rw first (ap (λ l. f ∷ l) r.rest_is));
        }
