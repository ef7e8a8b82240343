-- The lines that are a word and numbers.
use Rattle.std.proofs.Common.{◌≡◌, ◌∙◌, ℕ, zero, suc, ◌+◌, ◌<◌, ◌≤◌, ◌^◌, List, [], ◌∷◌, ◌++◌, ap, sym, subst, arith, length, get_or, take}
use Rattle.std.specs.Prelude.{decimal, map}
use Rattle.std.specs.List.{AllZip}
use Rattle.std.proofs.lemmas.Fmt.{decimal_injective}
use Rattle.std.proofs.lemmas.List.{map_push, take_more}

-- 0 is no such number
pub no_nought : (field : List ℕ) → field ≡ decimal 0 → (n : ℕ) → 1 ≤ n → n < 2 ^ 64 → field ≡ decimal n → ⊥
no_nought field is n low high digits = omega (arith, decimal_injective 0 n (omega arith) high (sym is ∙ digits))

module _ {B C : Type 0} (R : B → C → Type 0) where
  pub zip_push : (xs : List B) (ys : List C) (x : B) (y : C) → AllZip R xs ys → R x y → AllZip R (xs ++ x ∷ []) (ys ++ y ∷ [])
  zip_push [] [] x y h r = (r, tt)
  zip_push [] (b ∷ ys) x y h r = absurd h
  zip_push (a ∷ xs) [] x y h r = absurd h
  zip_push (a ∷ xs) (b ∷ ys) x y h r = (h.0, zip_push xs ys x y h.1 r)

  -- one more of those that a list shows
  pub zip_more : {A : Type 0} (g : A → B) (xs : List A) (ys : List C) (i : ℕ) (d : A) (y : C) → i < length xs → AllZip R (map g (take i xs)) ys → R (g (get_or xs i d)) y → AllZip R (map g (take (i + 1) xs)) (ys ++ y ∷ [])
  zip_more g xs ys i d y lt h r =
      subst (λ l. AllZip R l (ys ++ y ∷ [])) (sym (map_push g (take i xs) (get_or xs i d)) ∙ ap (map g) (sym (take_more xs i d lt)))
      (zip_push (map g (take i xs)) ys (g (get_or xs i d)) y h r)

  -- where one stands for nothing, no list stands for all
  pub zip_none : {A : Type 0} (g : A → B) (xs : List A) (i : ℕ) (d : A) → i < length xs → ((y : C) → R (g (get_or xs i d)) y → ⊥) → (ys : List C) → AllZip R (map g xs) ys → ⊥
  zip_none g [] i d lt none ys h = omega (arith, lt)
  zip_none g (a ∷ xs) i d lt none [] h = h
  zip_none g (a ∷ xs) zero d lt none (y ∷ ys) h = none y h.0
  zip_none g (a ∷ xs) (suc i) d lt none (y ∷ ys) h = zip_none g xs i d (omega (arith, lt)) none ys h.1
