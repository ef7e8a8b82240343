-- Lists by their last element, and what holds of each frame with those before it.
use Rattle.std.proofs.Common.{◌≡◌, List, [], ◌∷◌, ◌++◌, ℕ, refl, ap, sym, subst, ◌∙◌, ◌⊎◌, inl, inr}
use Rattle.std.proofs.lemmas.List.{append-nil, append_assoc, same_from_push}
use Rattle.xfs_conversation.specs.Parts.{EachFrame}

-- a list is empty or has a last element
pub ends : {X : Type 0} (xs : List X) → (xs ≡ []) ⊎ ((ys : List X) × (y : X) × (xs ≡ ys ++ y ∷ []))
ends [] = inl refl
ends (x ∷ xs) = elim (ends xs) [
  | inl e ↦ inr ([], x, ap (λ l. x ∷ l) e)
  | inr r ↦ inr (x ∷ r.0, r.1, ap (λ l. x ∷ l) r.2)
]

pub push_induction : {X : Type 0} (P : List X → Type 0) → P [] → ((xs : List X) (x : X) → P xs → P (xs ++ x ∷ [])) → (xs : List X) → P xs
push_induction {X} P empty step xs = go [] xs empty
  where
    go : (done left : List X) → P done → P (done ++ left)
    go done [] h = rw (append-nil done) h
    go done (x ∷ left) h = subst P (append_assoc done (x ∷ []) left) (go (done ++ x ∷ []) left (step done x h))

pub each_none : (P : List (List ℕ) → List ℕ → Type 0) → EachFrame [] P
each_none P before later frame is = elim (ends (before ++ frame ∷ later)) [
  | inl e ↦ absurd (not_nil before is)
  | inr r ↦ absurd (not_nil before is)
]
  where
    not_nil : (before : List (List ℕ)) → [] ≡ before ++ frame ∷ later → ⊥
    not_nil [] e = cc
    not_nil (f ∷ fs) e = cc

pub each_push : (P : List (List ℕ) → List ℕ → Type 0) (frames : List (List ℕ)) (frame : List ℕ) → EachFrame frames P → P frames frame → EachFrame (frames ++ frame ∷ []) P
each_push P frames frame all last before later f is = elim (ends later) [
  | inl e ↦
      let both = same_from_push frames before frame f (rw e at is) in
      rw (sym both.0, sym both.1) last
  | inr r ↦
      let split : frames ++ frame ∷ [] ≡ before ++ f ∷ (r.0 ++ r.1 ∷ []) = rw r.2 at is in
      all before r.0 f (same_from_push frames (before ++ f ∷ r.0) frame r.1 (split ∙ sym (append_assoc before (f ∷ r.0) (r.1 ∷ [])))).0
]

pub each_front : (P : List (List ℕ) → List ℕ → Type 0) (frames : List (List ℕ)) (frame : List ℕ) → EachFrame (frames ++ frame ∷ []) P → EachFrame frames P
each_front P frames frame all before later f is = all before (later ++ frame ∷ []) f (ap (λ l. l ++ frame ∷ []) is ∙ append_assoc before (f ∷ later) (frame ∷ []))
