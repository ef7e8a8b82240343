-- Frames that are handed over from a copy of all lists.
use Rattle.std.proofs.Common.{◌≡◌, ℕ, ◌+◌, ◌-◌, ◌≤◌, List, [], ◌∷◌, ◌++◌, length, take, drop, ap, sym, ◌∙◌, refl, arith, append_assoc, length-drop}
use Rattle.std.proofs.lemmas.List.{length-append, length-take-le, drop-drop}
use Rattle.std.proofs.Math.Seq.{take-add, take-append_seam, drop-append_seam}
use Rattle.xfs_server.specs.Memories.{joined}

pub joined-append : {T : Type 0} (xs ys : List (List T)) → joined (xs ++ ys) ≡ joined xs ++ joined ys
joined-append [] ys = refl
joined-append (x ∷ xs) ys = ap (λ l. x ++ l) (joined-append xs ys) ∙ sym (append_assoc x (joined xs) (joined ys))

pub joined-snoc : {T : Type 0} (xs : List (List T)) (x : List T) → joined (xs ++ x ∷ []) ≡ joined xs ++ x
joined-snoc xs x = rw (joined-append xs (x ∷ [])) (ap (λ l. joined xs ++ l) (append-nil_of x))
  where
    append-nil_of : {T : Type 0} (l : List T) → l ++ [] ≡ l
    append-nil_of [] = refl
    append-nil_of (y ∷ l) = ap (λ m. y ∷ m) (append-nil_of l)

-- so many of the copy were handed over, and the rest begins with the next list
pub next_fits : {T : Type 0} (to : ℕ) (copy list rest : List T) → to ≤ length copy → drop to copy ≡ list ++ rest → to + length list ≤ length copy
next_fits to copy list rest le e =
    let long : length copy - to ≡ length list + length rest = sym (length-drop to copy) ∙ ap length e ∙ length-append list rest in
    omega (arith, le, long)

pub next_handed : {T : Type 0} (to : ℕ) (copy list rest : List T) → drop to copy ≡ list ++ rest → take (to + length list) copy ≡ take to copy ++ list
next_handed to copy list rest e = take-add to (length list) copy ∙ ap (λ l. take to copy ++ l) (ap (take (length list)) e ∙ take-append_seam list rest)

pub next_left : {T : Type 0} (to : ℕ) (copy list rest : List T) → drop to copy ≡ list ++ rest → drop (to + length list) copy ≡ rest
next_left to copy list rest e = sym (drop-drop (length list) to copy) ∙ ap (drop (length list)) e ∙ drop-append_seam list rest

pub next_latest : {T : Type 0} (to : ℕ) (copy list rest : List T) → to ≤ length copy → drop to copy ≡ list ++ rest → drop to (take (to + length list) copy) ≡ list
next_latest to copy list rest le e =
    ap (drop to) (next_handed to copy list rest e) ∙ ap (λ n. drop n (take to copy ++ list)) (sym (length-take-le to copy le)) ∙ drop-append_seam (take to copy) list
