-- The index after a filter and after an insert.
use Rattle.std.proofs.Common.{◌≡◌, ℕ, zero, suc, Bool, true, List, [], ◌∷◌, ◌++◌, take, drop, All, Contains, filter, insert, subst, sym, refl, ap, ◌∙◌, inl, inr, arith}
use Rattle.std.proofs.lemmas.Bool.{cases_Bool}
use Rattle.std.proofs.lemmas.List.Elements.{All-append, All-cons, All-take, All-drop, All-weaker, Contains-append_left, Contains-append_right, Contains-append_cases, Contains-push}
use Rattle.std.proofs.lemmas.List.{take-append-drop}
use Rattle.xfs_queue.specs.declared.deadlines.Entry.{Entry}
use Rattle.xfs_queue.specs.Deadlines.{IsIndex}

-- an element is the first of a list, or in the rest
contains_here : {X : Type 0} (x : X) (xs : List X) → Contains (x ∷ xs) x
contains_here x xs = (0, omega arith, refl)

contains_later : {X : Type 0} (x y : X) (xs : List X) → Contains xs x → Contains (y ∷ xs) x
contains_later x y xs h = (suc h.0, omega (arith, h.1), h.2)

pub Contains-filter : {X : Type 0} (keep : X → Bool) (xs : List X) (x : X) → keep x ≡ true → Contains xs x → Contains (filter keep xs) x
Contains-filter keep [] x k h = absurd (omega (arith, h.1))
Contains-filter keep (y ∷ xs) x k (zero, within, is) =
    let here : keep y ≡ true = ap keep is ∙ k in
    rw here (subst (λ z. Contains (y ∷ filter keep xs) z) is (contains_here y (filter keep xs)))
Contains-filter keep (y ∷ xs) x k (suc at, within, is) =
    let rest = Contains-filter keep xs x k (at, omega (arith, within), is) in
    elim (cases_Bool (keep y)) [ inl y ↦ rw y (contains_later _ _ _ rest) | inr n ↦ rw n rest ]

-- what is kept of one is kept of the other
within_filter : (keep : Entry → Bool) (xs ys : List Entry) → All (Contains ys) xs → All (Contains (filter keep ys)) (filter keep xs)
within_filter keep [] ys all = λ k d h. absurd (omega (arith, h))
within_filter keep (x ∷ xs) ys all =
    let rest = within_filter keep xs ys (λ k d h. all (suc k) d (omega (arith, h))) in
    elim (cases_Bool (keep x)) [
      | inl y ↦ rw y (All-cons (Contains (filter keep ys)) x (filter keep xs) (Contains-filter keep ys x y (all 0 x (omega arith))) rest)
      | inr n ↦ rw n rest
    ]

pub index_after_filter : (keep : Entry → Bool) (xs es : List Entry) → IsIndex xs es → IsIndex (filter keep xs) (filter keep es)
index_after_filter keep xs es is = record {
  covered = within_filter keep es xs is.covered;
  backed = within_filter keep xs es is.backed;
}

insert_contains : (xs : List Entry) (at : ℕ) (e x : Entry) → Contains xs x → Contains (insert xs at e) x
insert_contains xs at e x h =
    elim (Contains-append_cases (take at xs) (drop at xs) x (subst (λ (ys : List Entry). Contains ys x) (sym (take-append-drop at xs)) h)) [
      | inl l ↦ Contains-append_left (take at xs) (e ∷ drop at xs) x l
      | inr r ↦ Contains-append_right (take at xs) (e ∷ drop at xs) x (contains_later x e (drop at xs) r)
    ]

insert_has : (xs : List Entry) (at : ℕ) (e : Entry) → Contains (insert xs at e) e
insert_has xs at e = Contains-append_right (take at xs) _ e (contains_here e (drop at xs))

pub index_after_insert : (xs es : List Entry) (at : ℕ) (e : Entry) → IsIndex xs es → IsIndex (insert xs at e) (es ++ e ∷ [])
index_after_insert xs es at e is =
    let old = All-weaker (Contains es) (Contains (es ++ e ∷ [])) (λ x h. Contains-append_left es (e ∷ []) x h) xs is.backed in
    let P = Contains (es ++ e ∷ []) in
    record {
      covered = All-append (Contains (insert xs at e)) es (e ∷ [])
          (All-weaker (Contains xs) (Contains (insert xs at e)) (insert_contains xs at e) es is.covered)
          (All-cons (Contains (insert xs at e)) e [] (insert_has xs at e) (λ k d h. absurd (omega (arith, h))));
      backed = All-append P (take at xs) (e ∷ drop at xs) (All-take P at xs old) (All-cons P e (drop at xs) (Contains-push es e) (All-drop P at xs old));
    }
