-- A conversation has its parts.
use Rattle.std.proofs.Common.{◌≡◌, ℕ, true, List, [], ◌∷◌, ◌++◌, Option, None, Some, map, Contains, refl, ap, sym, subst, ◌∙◌}
use Rattle.std.specs.List.{filter_map}
use Rattle.std.specs.Option.{IsSome}
use Rattle.std.specs.declared.result.Result.{Result}
use Rattle.std.proofs.lemmas.Bool.{eq-eqb}
use Rattle.std.proofs.lemmas.List.{append-nil, map-append}
use Rattle.std.proofs.lemmas.List.Elements.{filter_map-append}
use Rattle.std.proofs.lemmas.List.Folds.{list_any_at}
use Rattle.xfs_envelope.specs.declared.command.Refuse.{Refuse}
use Rattle.xfs_envelope.specs.Commands.{Command, command_in}
use Rattle.xfs_envelope.specs.Replies.{Reply, reply_in}
use Rattle.xfs_conversation.specs.Answers.{Heading, heading_in, heading_of}
use Rattle.xfs_conversation.specs.Conversation.{Acknowledges, misread, misnumbered, crowded, accepted, Says, completed, told, announced, Conversation, joined, posted, heard}
use Rattle.xfs_conversation.specs.Pending.{Pending, pending_of, has_id, is_pending}
use Rattle.xfs_conversation.specs.Parts.{HasStatus, EndsPending, IsOfPending, pending_after, HasParts}
use Rattle.xfs_conversation.proofs.Lists.{each_none, each_push}
use Rattle.xfs_conversation.proofs.Left.{left_push, left_same, left_more}

abbrev pub heading : List ℕ → Option Heading
heading frame = heading_in (reply_in frame)

abbrev pub due : List ℕ → Heading
due text = heading_of (command_in text)

-- what one more frame owes
more_parts : (texts frames : List (List ℕ)) (frame : List ℕ) (after : List Pending) {earlier : List (List ℕ)} {before : List Pending} {r : Option Reply} → reply_in frame ≡ r → HasParts earlier frames before
    → filter_map heading (frames ++ frame ∷ []) ≡ map due texts → HasStatus before r → EndsPending before r → IsOfPending before r → after ≡ pending_after (frames ++ frame ∷ []) → IsSome r
    → HasParts texts (frames ++ frame ∷ []) after
more_parts texts frames frame after {r = r} says parts headings status ends tells left answer = record {
  acknowledges = headings;
  statuses = each_push _ frames frame parts.statuses (rw says (subst (λ l. HasStatus l r) parts.left status));
  completions = each_push _ frames frame parts.completions (rw says (subst (λ l. EndsPending l r) parts.left ends));
  events = each_push _ frames frame parts.events (rw says (subst (λ l. IsOfPending l r) parts.left tells));
  left = left;
  answers = each_push _ frames frame parts.answers (rw says answer);
}

-- an acknowledge with its text
headings_more : (texts frames : List (List ℕ)) (text frame : List ℕ) → heading frame ≡ Some (due text) → filter_map heading frames ≡ map due texts
    → filter_map heading (frames ++ frame ∷ []) ≡ map due (texts ++ text ∷ [])
headings_more texts frames text frame one h = rw (filter_map-append heading frames (frame ∷ []), map-append due texts (text ∷ []), one, h) refl

-- another frame
headings_same : (texts frames : List (List ℕ)) (frame : List ℕ) → heading frame ≡ None → filter_map heading frames ≡ map due texts
    → filter_map heading (frames ++ frame ∷ []) ≡ map due texts
headings_same texts frames frame none h = rw (filter_map-append heading frames (frame ∷ []), none, append-nil (filter_map heading frames)) h

posted_parts : (texts frames : List (List ℕ)) (text frame : List ℕ) {before after : List Pending} {t : Result Command Refuse} {r : Option Reply} → command_in text ≡ t → reply_in frame ≡ r
    → Acknowledges before t r after → HasParts texts frames before → HasParts (texts ++ text ∷ []) (frames ++ frame ∷ []) after
posted_parts texts frames text frame reads says (misread refuse) parts =
    more_parts (texts ++ text ∷ []) frames frame _ says parts (headings_more texts frames text frame (rw (says, reads) refl) parts.acknowledges)
    (λ e. absurd cc) tt tt (parts.left ∙ sym (left_same frames frame _ says refl (λ id. refl))) refl
posted_parts texts frames text frame reads says (misnumbered c wrong) parts =
    more_parts (texts ++ text ∷ []) frames frame _ says parts (headings_more texts frames text frame (rw (says, reads) refl) parts.acknowledges)
    (λ e. sym wrong) tt tt (parts.left ∙ sym (left_same frames frame _ says refl (λ id. refl))) refl
posted_parts texts frames text frame reads says (crowded c right) parts =
    more_parts (texts ++ text ∷ []) frames frame _ says parts (headings_more texts frames text frame (rw (says, reads) refl) parts.acknowledges)
    (λ e. sym right) tt tt (parts.left ∙ sym (left_same frames frame _ says refl (λ id. refl))) refl
posted_parts texts frames text frame reads says (accepted c right) parts =
    more_parts (texts ++ text ∷ []) frames frame _ says parts (headings_more texts frames text frame (rw (says, reads) refl) parts.acknowledges)
    (λ e. sym right) tt tt (ap (λ l. l ++ pending_of c ∷ []) parts.left ∙ sym (left_more frames frame _ (pending_of c) says refl (λ id. refl))) refl

contained_pending : (pending : List Pending) (p : Pending) → Contains pending p → is_pending pending p.id ≡ true
contained_pending pending p there = list_any_at (has_id p.id) pending there.0 p there.1 (rw there.2 (eq-eqb p.id p.id refl))

heard_parts : (texts frames : List (List ℕ)) (frame : List ℕ) {before after : List Pending} {r : Option Reply} → reply_in frame ≡ r
    → Says before r after → HasParts texts frames before → HasParts texts (frames ++ frame ∷ []) after
heard_parts texts frames frame says (completed p code payload there) parts =
    more_parts texts frames frame _ says parts (headings_same texts frames frame (ap heading_in says) parts.acknowledges)
    tt there tt (rw parts.left (sym (left_push frames frame _ says ∙ append-nil _))) refl
heard_parts texts frames frame {before = before} says (told p name payload there) parts =
    more_parts texts frames frame _ says parts (headings_same texts frames frame (ap heading_in says) parts.acknowledges)
    tt tt (contained_pending before p there) (parts.left ∙ sym (left_same frames frame _ says refl (λ id. refl))) refl
heard_parts texts frames frame says (announced name payload) parts =
    more_parts texts frames frame _ says parts (headings_same texts frames frame (ap heading_in says) parts.acknowledges)
    tt tt tt (parts.left ∙ sym (left_same frames frame _ says refl (λ id. refl))) refl

pub parts_of : {texts frames : List (List ℕ)} {pending : List Pending} → Conversation texts frames pending → HasParts texts frames pending
parts_of joined = record { acknowledges = refl; statuses = each_none _; completions = each_none _; events = each_none _; left = refl; answers = each_none _ }
parts_of (posted {texts = ts} {frames = fs} h text frame says) = posted_parts ts fs text frame refl refl says (parts_of h)
parts_of (heard {texts = ts} {frames = fs} h frame says) = heard_parts ts fs frame refl says (parts_of h)
