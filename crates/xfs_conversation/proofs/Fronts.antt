-- Each front of a conversation is one, and what is pending was posted.
use Rattle.std.proofs.Common.{◌≡◌, Bool, List, [], ◌∷◌, ◌++◌, ℕ, filter, All, Option, refl, ap, sym, ◌∙◌, inl, inr}
use Rattle.std.proofs.lemmas.Bool.{cases_Bool}
use Rattle.std.specs.declared.result.Result.{Result}
use Rattle.std.proofs.lemmas.List.{append-nil, append_assoc, same_from_push}
use Rattle.std.proofs.lemmas.List.Elements.{All-nil, All-cons, All-head, All-tail, All-push, All-weaker, Contains-append_left, Contains-push}
use Rattle.xfs_envelope.specs.declared.command.Refuse.{Refuse}
use Rattle.xfs_envelope.specs.Commands.{Command, command_in}
use Rattle.xfs_envelope.specs.Replies.{Reply}
use Rattle.xfs_conversation.specs.Conversation.{Acknowledges, misread, misnumbered, crowded, accepted, Says, completed, told, announced, Conversation, joined, posted, heard}
use Rattle.xfs_conversation.specs.Pending.{Pending, pending_of}
use Rattle.xfs_conversation.specs.Fronts.{IsFront, WasPosted}
use Rattle.xfs_conversation.proofs.Lists.{ends}

whole : {texts frames : List (List ℕ)} {pending : List Pending} (before : List (List ℕ)) → frames ≡ before → Conversation texts frames pending → IsFront texts before
whole {texts} {frames} {pending} before is h = rw (sym is) record { acknowledged = texts; later = []; pending = pending; texts_are = sym (append-nil texts); talk = h }

nothing_before : (before later : List (List ℕ)) → [] ≡ before ++ later → [] ≡ before
nothing_before [] later is = refl
nothing_before (frame ∷ before) later is = absurd cc

one_less : (frames before later : List (List ℕ)) (frame last : List ℕ) → frames ++ frame ∷ [] ≡ before ++ (later ++ last ∷ []) → frames ≡ before ++ later
one_less frames before later frame last is = (same_from_push frames (before ++ later) frame last (is ∙ sym (append_assoc before later (last ∷ [])))).0

pub front_of : {texts frames : List (List ℕ)} {pending : List Pending} → Conversation texts frames pending → (before later : List (List ℕ)) → frames ≡ before ++ later → IsFront texts before
front_of joined before later is = whole before (nothing_before before later is) joined
front_of (posted {texts = ts} {frames = fs} h text frame says) before later is = elim (ends later) [
  | inl e ↦ whole before ((rw e at is) ∙ append-nil before) (posted h text frame says)
  | inr r ↦
      let front = front_of h before r.0 (one_less fs before r.0 frame r.1 (rw r.2 at is)) in
      record {
        acknowledged = front.acknowledged;
        later = front.later ++ text ∷ [];
        pending = front.pending;
        texts_are = ap (λ l. l ++ text ∷ []) front.texts_are ∙ append_assoc front.acknowledged front.later (text ∷ []);
        talk = front.talk;
      }
]
front_of (heard {texts = ts} {frames = fs} h frame says) before later is = elim (ends later) [
  | inl e ↦ whole before ((rw e at is) ∙ append-nil before) (heard h frame says)
  | inr r ↦ front_of h before r.0 (one_less fs before r.0 frame r.1 (rw r.2 at is))
]

-- what was posted before a further text
still_posted : (texts : List (List ℕ)) (text : List ℕ) (p : Pending) → WasPosted texts p → WasPosted (texts ++ text ∷ []) p
still_posted texts text p was = record {
  text = was.text;
  command = was.command;
  there = Contains-append_left texts (text ∷ []) was.text was.there;
  reads = was.reads;
  is = was.is;
}

all_still_posted : (texts : List (List ℕ)) (text : List ℕ) (pending : List Pending) → All (WasPosted texts) pending → All (WasPosted (texts ++ text ∷ [])) pending
all_still_posted texts text pending all = All-weaker (WasPosted texts) (WasPosted (texts ++ text ∷ [])) (still_posted texts text) pending all

posted_more : (texts : List (List ℕ)) (text : List ℕ) {before after : List Pending} {t : Result Command Refuse} {r : Option Reply} → command_in text ≡ t → Acknowledges before t r after
    → All (WasPosted texts) before → All (WasPosted (texts ++ text ∷ [])) after
posted_more texts text {before = before} reads (misread refuse) all = all_still_posted texts text before all
posted_more texts text {before = before} reads (misnumbered c wrong) all = all_still_posted texts text before all
posted_more texts text {before = before} reads (crowded c right) all = all_still_posted texts text before all
posted_more texts text {before = before} reads (accepted c right) all =
    All-push (WasPosted (texts ++ text ∷ [])) before (pending_of c) (all_still_posted texts text before all)
    record { text = text; command = c; there = Contains-push texts text; reads = reads; is = refl }

all_kept : {X : Type 0} (P : X → Type 0) (keep : X → Bool) (xs : List X) → All P xs → All P (filter keep xs)
all_kept P keep [] all = All-nil P
all_kept P keep (x ∷ xs) all = elim (cases_Bool (keep x)) [
  | inl y ↦ rw y (All-cons P x (filter keep xs) (All-head P x xs all) (all_kept P keep xs (All-tail P x xs all)))
  | inr n ↦ rw n (all_kept P keep xs (All-tail P x xs all))
]

heard_more : (texts : List (List ℕ)) {before after : List Pending} {r : Option Reply} → Says before r after → All (WasPosted texts) before → All (WasPosted texts) after
heard_more texts {before = before} (completed p code payload there) all = all_kept (WasPosted texts) _ before all
heard_more texts (told p name payload there) all = all
heard_more texts (announced name payload) all = all

pub posted_of : {texts frames : List (List ℕ)} {pending : List Pending} → Conversation texts frames pending → All (WasPosted texts) pending
posted_of joined = All-nil (WasPosted [])
posted_of (posted {texts = ts} h text frame says) = posted_more ts text refl says (posted_of h)
posted_of (heard {texts = ts} h frame says) = heard_more ts says (posted_of h)
