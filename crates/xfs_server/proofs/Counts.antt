-- Counts and lists that grow in two steps.
use Rattle.std.proofs.Common.{◌≡◌, ℕ, zero, suc, ◌+◌, ◌≤◌, List, [], ◌∷◌, ◌++◌, None, Some, refl, ap, sym, ◌∙◌, append_assoc, arith, drop, slice_get, rules}
use Rattle.std.specs.Prelude.{option_map}
use Rattle.std.specs.declared.option.Option.{Option}
use Rattle.std.proofs.lemmas.List.{append-nil}
use Rattle.xfs_base.specs.Causes.{IfTold, next_count}
use Rattle.xfs_server.specs.Counted.{counted, grown}

pub grown-grown : {T : Type 0} (xs ys : List T) (told : Option (List T)) → grown ys (grown xs told) ≡ grown (xs ++ ys) told
grown-grown xs ys None = refl
grown-grown xs ys (Some list) = ap Some (append_assoc list xs ys)

pub grown-nil : {T : Type 0} (told : Option (List T)) → grown [] told ≡ told
grown-nil None = refl
grown-nil (Some list) = ap Some (append-nil list)

pub counted-counted : (m n count : ℕ) → counted m (counted n count) ≡ counted (n + m) count
counted-counted zero n count = let e : n + 0 ≡ n = omega arith in rw e refl
counted-counted (suc m) n count = let e : n + suc m ≡ suc (n + m) = omega arith in rw e (ap next_count (counted-counted m n count))

-- the texts to come begin with the one that was taken
pub first_to_come : (coming : Option (List (List ℕ))) (text : List ℕ) → IfTold coming (λ texts. slice_get texts 0 ≡ Some text)
    → coming ≡ option_map (λ rest. text ∷ rest) (option_map (drop 1) coming)
first_to_come None text e = refl
first_to_come (Some []) text e = absurd (none_is_some e)
  where
    none_is_some : None ≡ Some text → ⊥
    none_is_some e = search rules
first_to_come (Some (x ∷ xs)) text e = ap (λ t. Some (t ∷ xs)) (some_is e)
  where
    some_is : Some x ≡ Some text → x ≡ text
    some_is e = search rules

pub none_taken : {T : Type 0} (coming : Option (List T)) → coming ≡ option_map (λ rest. [] ++ rest) coming
none_taken None = refl
none_taken (Some list) = refl

-- what is to come begins with what was taken in two steps
pub coming-coming : {T : Type 0} (xs ys zs : List T) (a b c : Option (List T)) → a ≡ option_map (λ rest. xs ++ rest) b
    → b ≡ option_map (λ rest. ys ++ (zs ++ rest)) c → a ≡ option_map (λ rest. (xs ++ ys) ++ (zs ++ rest)) c
coming-coming xs ys zs a b None e f = e ∙ ap (option_map (λ rest. xs ++ rest)) f
coming-coming xs ys zs a b (Some list) e f = e ∙ ap (option_map (λ rest. xs ++ rest)) f ∙ ap Some (sym (append_assoc xs ys (zs ++ list)))

pub grown_joined : {T : Type 0} (xs ys zs : List T) (told : Option (List T)) → grown (ys ++ zs) (grown (xs ++ []) told) ≡ grown ((xs ++ ys) ++ zs) told
grown_joined xs ys zs told = rw (append-nil xs, append_assoc xs ys zs) (grown-grown xs (ys ++ zs) told)

pub counted-none : (told : Option ℕ) → option_map (counted 0) told ≡ told
counted-none None = refl
counted-none (Some count) = refl

pub counted-told : (m n : ℕ) (told : Option ℕ) → option_map (counted m) (option_map (counted n) told) ≡ option_map (counted (n + m)) told
counted-told m n None = refl
counted-told m n (Some count) = ap Some (counted-counted m n count)

next-le : (a b : ℕ) → a ≤ b → next_count a ≤ next_count b
next-le a b le = omega (arith, le)

pub counted-le : (n a b : ℕ) → a ≤ b → counted n a ≤ counted n b
counted-le zero a b le = le
counted-le (suc n) a b le = next-le (counted n a) (counted n b) (counted-le n a b le)
