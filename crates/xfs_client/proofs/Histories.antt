-- What a history says once something more is asked or heard.
use Rattle.std.proofs.Common.{◌≡◌, ℕ, ◌+◌, List, [], ◌∷◌, ◌++◌, Bool, true, false, ◌&&◌, ◌||◌, ◌==◌, not, nat_le, refl, ◌∙◌, ap, arith}
use Rattle.std.proofs.lemmas.List.Folds.{list_any-append}
use Rattle.std.proofs.lemmas.List.Sums.{sum_by_push}
use Rattle.xfs_client.proofs.Numbers.{one_more}
use Rattle.xfs_client.specs.History.{Told, Entry, ask, heard, asks, acknowledges, ends, was_heard, is_asked, is_open, is_acknowledged}

or-false : (a b : Bool) → (a || (b || false)) ≡ (a || b)
or-false true b = refl
or-false false true = refl
or-false false false = refl

or-nothing : (a : Bool) → (a || (false || false)) ≡ a
or-nothing true = refl
or-nothing false = refl

and-not-or : (a e f : Bool) → (a && not (e || f)) ≡ ((a && not e) && not f)
and-not-or true true f = refl
and-not-or true false true = refl
and-not-or true false false = refl
and-not-or false e f = refl

module _ (h : List Entry) (t : Told) where
  pub asks-heard : asks (h ++ heard t ∷ []) ≡ asks h
  asks-heard = sum_by_push _ h (heard t) ∙ omega arith

  pub was_heard-heard : (p : Told → Bool) → was_heard p (h ++ heard t ∷ []) ≡ (was_heard p h || p t)
  was_heard-heard p = list_any-append _ h (heard t ∷ []) ∙ or-false (was_heard p h) (p t)

  pub is_asked-heard : (id : ℕ) → is_asked (h ++ heard t ∷ []) id ≡ is_asked h id
  is_asked-heard id = ap (λ n. nat_le 1 id && nat_le id n) asks-heard

  pub is_open-heard : (id : ℕ) → is_open (h ++ heard t ∷ []) id ≡ (is_open h id && not (ends id t))
  is_open-heard id = rw (is_asked-heard id, was_heard-heard (ends id)) (and-not-or (is_asked h id) (was_heard (ends id) h) (ends id t))

  pub is_acknowledged-heard : (id : ℕ) → is_acknowledged (h ++ heard t ∷ []) id ≡ (is_acknowledged h id || acknowledges id t)
  is_acknowledged-heard id = was_heard-heard (acknowledges id)

module _ (h : List Entry) where
  pub asks-ask : asks (h ++ ask ∷ []) ≡ asks h + 1
  asks-ask = sum_by_push _ h ask

  pub was_heard-ask : (p : Told → Bool) → was_heard p (h ++ ask ∷ []) ≡ was_heard p h
  was_heard-ask p = list_any-append _ h (ask ∷ []) ∙ or-nothing (was_heard p h)

  pub is_asked-ask : (id : ℕ) → is_asked (h ++ ask ∷ []) id ≡ ((asks h + 1 == id) || is_asked h id)
  is_asked-ask id = ap (λ n. nat_le 1 id && nat_le id n) asks-ask ∙ one_more (asks h) id

  pub is_open-ask : (id : ℕ) → is_open (h ++ ask ∷ []) id ≡ (((asks h + 1 == id) || is_asked h id) && not (was_heard (ends id) h))
  is_open-ask id = rw (is_asked-ask id, was_heard-ask (ends id)) refl

  pub is_acknowledged-ask : (id : ℕ) → is_acknowledged (h ++ ask ∷ []) id ≡ is_acknowledged h id
  is_acknowledged-ask id = was_heard-ask (acknowledges id)
