-- The place of a client in a list, and what stands there.
use Rattle.std.proofs.Common.{◌≡◌, ℕ, ◌≤◌, Bool, List, length, get_or, find, position, slice_get, ltb, None, Some, inl, inr, refl, ap, sym, ◌∙◌, arith}
use Rattle.std.specs.List.{position_or_len}
use Rattle.std.proofs.lemmas.Bool.{cases_Bool, cases_lt, lt-ltb}
use Rattle.std.specs.Prelude.{not}
use Rattle.std.proofs.lemmas.List.Sums.{prefix_len-le-length}
use Rattle.std.proofs.lemmas.List.Folds.{find_at}
use Rattle.std.proofs.lemmas.List.Quantifiers.{position-Some}
use Rattle.std.proofs.lemmas.Option.{slice_get_read, slice_get_past, none-some, same_Some}

module _ {X : Type 0} (p : X → Bool) where
  pub first_found : (xs : List X) (at : ℕ) → position p xs ≡ Some at → position_or_len p xs ≡ at
  first_found xs at e = elim (cases_Bool (ltb (position_or_len p xs) (length xs))) [
    | inl y ↦ same_Some _ _ (rw y at e)
    | inr n ↦ absurd (none-some _ (rw n at e))
  ]

  -- what is found there
  pub taken : (xs : List X) (at : ℕ) (x : X) → position p xs ≡ Some at → x ≡ get_or xs at x → find p xs ≡ Some x
  taken xs at x e is = find_at p xs ∙ ap (slice_get xs) (first_found xs at e) ∙ slice_get_read xs (length xs) at x refl (position-Some p xs at x e).0 is

  -- where nothing is found
  none_within : (xs : List X) → position p xs ≡ None → length xs ≤ position_or_len p xs
  none_within xs e = elim (cases_lt (position_or_len p xs) (length xs)) [
    | inl within ↦ absurd (none-some _ (sym (rw (lt-ltb _ _ within) at e)))
    | inr past ↦ past
  ]

  pub missing : (xs : List X) → position p xs ≡ None → find p xs ≡ None
  missing xs e = find_at p xs ∙ slice_get_past xs (position_or_len p xs) (none_within xs e)

  pub all_before : (xs : List X) → position p xs ≡ None → length xs ≡ position_or_len p xs
  all_before xs e = let least = none_within xs e in let most = prefix_len-le-length (λ x. not (p x)) xs in omega (arith, least, most)

  pub within : (xs : List X) → position_or_len p xs ≤ length xs
  within xs = prefix_len-le-length (λ x. not (p x)) xs
