-- Beginnings of one list, and places in a list.
use Rattle.std.proofs.Common.{◌≡◌, ◌⊎◌, inl, inr, ⊎_elim, ℕ, zero, suc, ◌<◌, List, [], ◌∷◌, ◌++◌, length, refl, ap, sym, ◌∙◌, ◌≤◌, arith, append_assoc, append-nil}
use mathlib.Core.List.{IsPrefix}
use mathlib.Core.Option.{some, some-ne-none}
use lib.ListN.{get_elem?}

pub begins_itself : {A : Type 0} (xs : List A) → IsPrefix xs xs
begins_itself xs = ([], append-nil xs)

pub nil_begins : {A : Type 0} (xs : List A) → IsPrefix [] xs
nil_begins xs = (xs, refl)

pub begins_longer : {A : Type 0} (xs ys zs : List A) → IsPrefix xs ys → IsPrefix ys zs → IsPrefix xs zs
begins_longer xs ys zs p q = (p.0 ++ q.0, sym (append_assoc xs p.0 q.0) ∙ (ap (λ w. w ++ q.0) p.1 ∙ q.1))

pub below_length : {A : Type 0} (l : List A) (i : ℕ) (a : A) → get_elem? l i ≡ some a → i < length l
below_length [] i a e = absurd (some-ne-none a (sym e))
below_length (x ∷ xs) zero a e = omega arith
below_length (x ∷ xs) (suc i) a e = let h = below_length xs i a e in omega arith

-- of two beginnings of one list, the one that isn't longer begins the other
pub shorter_begins : {A : Type 0} (xs ys zs : List A) → IsPrefix xs zs → IsPrefix ys zs → length xs ≤ length ys → IsPrefix xs ys
shorter_begins [] ys zs p q le = nil_begins ys
shorter_begins (x ∷ xs) [] zs p q le = absurd (omega arith)
shorter_begins (x ∷ xs) (y ∷ ys) [] p q le = absurd (cc p.1)
shorter_begins (x ∷ xs) (y ∷ ys) (z ∷ zs) p q le =
    let more = shorter_begins xs ys zs (p.0, cc p.1) (q.0, cc q.1) (omega arith) in
    (more.0, cc (p.1, q.1, more.1))

-- of two beginnings of one list, one begins the other
pub one_begins : {A : Type 0} (xs ys zs : List A) → IsPrefix xs zs → IsPrefix ys zs → IsPrefix xs ys ⊎ IsPrefix ys xs
one_begins [] ys zs p q = inl (nil_begins ys)
one_begins (x ∷ xs) [] zs p q = inr (nil_begins (x ∷ xs))
one_begins (x ∷ xs) (y ∷ ys) [] p q = absurd (cc p.1)
one_begins (x ∷ xs) (y ∷ ys) (z ∷ zs) p q =
    ⊎_elim
    (λ more. inl (more.0, cc (p.1, q.1, more.1)))
    (λ more. inr (more.0, cc (p.1, q.1, more.1)))
    (one_begins xs ys zs (p.0, cc p.1) (q.0, cc q.1))

-- a beginning is no longer than the list
pub begins_within : {A : Type 0} (xs ys : List A) → IsPrefix xs ys → length xs ≤ length ys
begins_within [] ys p = omega arith
begins_within (x ∷ xs) [] p = absurd (cc p.1)
begins_within (x ∷ xs) (y ∷ ys) p = let more = begins_within xs ys (p.0, cc p.1) in omega arith
