-- The commands that are left after one more frame.
use Rattle.std.proofs.Common.{◌≡◌, ℕ, Bool, true, false, not, List, [], ◌∷◌, ◌++◌, Option, None, Some, filter, refl, ap, inl, inr}
use Rattle.std.specs.List.{list_any, cons_option}
use Rattle.std.specs.Option.{option_to_list}
use Rattle.std.proofs.lemmas.Bool.{cases_Bool}
use Rattle.std.proofs.lemmas.List.{append-nil}
use Rattle.std.proofs.lemmas.List.Folds.{list_any-append}
use Rattle.xfs_envelope.specs.Replies.{Reply, reply_in}
use Rattle.xfs_conversation.specs.Answers.{accepted_in, completes}
use Rattle.xfs_conversation.specs.Pending.{Pending}
use Rattle.xfs_conversation.specs.Parts.{left_by, pending_after}

abbrev stays : Option Reply → Pending → Bool
stays r p = not (completes p.id r)

pub left_push : (frames : List (List ℕ)) (frame : List ℕ) (r : Option Reply) → reply_in frame ≡ r
    → pending_after (frames ++ frame ∷ []) ≡ filter (stays r) (pending_after frames) ++ option_to_list (accepted_in r)
left_push [] frame r says = rw says (alone (accepted_in r))
  where
    alone : (o : Option Pending) → cons_option (left_by [] o) [] ≡ option_to_list o
    alone None = refl
    alone (Some p) = refl
left_push (f ∷ frames) frame r says = rw (left_push frames frame r says) (at (accepted_in (reply_in f)))
  where
    rest : List Pending
    rest = option_to_list (accepted_in r)

    at : (o : Option Pending) → cons_option (left_by (frames ++ frame ∷ []) o) (filter (stays r) (pending_after frames) ++ rest)
        ≡ filter (stays r) (cons_option (left_by frames o) (pending_after frames)) ++ rest
    at None = refl
    at (Some p) =
        let ends : Bool → Bool = λ b. b in
        rw (list_any-append (λ g. completes p.id (reply_in g)) frames (frame ∷ []), says) (elim (cases_Bool (list_any (λ g. completes p.id (reply_in g)) frames)) [
          | inl y ↦ rw y refl
          | inr n ↦ rw n (elim (cases_Bool (completes p.id r)) [ inl y ↦ rw y refl | inr m ↦ rw m refl ])
        ])

filter_all : {X : Type 0} (p : X → Bool) → ((x : X) → p x ≡ true) → (xs : List X) → filter p xs ≡ xs
filter_all p all [] = refl
filter_all p all (x ∷ xs) = rw (all x) (ap (λ l. x ∷ l) (filter_all p all xs))

-- by a frame that completes nothing
pub left_same : (frames : List (List ℕ)) (frame : List ℕ) (r : Option Reply) → reply_in frame ≡ r → accepted_in r ≡ None → ((id : ℕ) → completes id r ≡ false)
    → pending_after (frames ++ frame ∷ []) ≡ pending_after frames
left_same frames frame r says none never =
    rw (left_push frames frame r says, none, filter_all (stays r) (λ p. ap not (never p.id)) (pending_after frames)) (append-nil (pending_after frames))

pub left_more : (frames : List (List ℕ)) (frame : List ℕ) (r : Option Reply) (p : Pending) → reply_in frame ≡ r → accepted_in r ≡ Some p → ((id : ℕ) → completes id r ≡ false)
    → pending_after (frames ++ frame ∷ []) ≡ pending_after frames ++ p ∷ []
left_more frames frame r p says some never =
    rw (left_push frames frame r says, some, filter_all (stays r) (λ p. ap not (never p.id)) (pending_after frames)) refl
