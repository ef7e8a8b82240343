-- What has the parts is a conversation: taken off its last frame, it has them still.
use Rattle.std.proofs.Common.{◌≡◌, ℕ, zero, true, false, List, [], ◌∷◌, ◌++◌, Option, None, Some, map, Contains, refl, ap, sym, subst, ◌∙◌, inl, inr, arith}
use Rattle.std.specs.List.{filter_map}
use Rattle.std.specs.declared.result.Result.{Result}
use Rattle.std.specs.declared.result.Result.TheVariants.{Ok, Err}
use Rattle.std.proofs.lemmas.Bool.{cases_Bool, eqb-true}
use Rattle.std.proofs.lemmas.List.{append-nil, map-append, same_from_push}
use Rattle.std.proofs.lemmas.List.Elements.{filter_map-append, Contains-append_right}
use Rattle.xfs_envelope.specs.declared.code.Status.{Status}
use Rattle.xfs_envelope.specs.declared.code.Status.TheVariants.{InvalidMessage, InvalidRequestId, TooManyRequests}
use Rattle.xfs_envelope.specs.declared.command.Refuse.{Refuse}
use Rattle.xfs_envelope.specs.Commands.{Command, command_in}
use Rattle.xfs_envelope.specs.Replies.{Reply, reply_in, acknowledge, event, completion, unsolicited}
use Rattle.xfs_conversation.specs.Answers.{Heading, heading_in, heading_of, is_invalid_message}
use Rattle.xfs_conversation.specs.Conversation.{Acknowledges, misread, misnumbered, crowded, accepted, Says, completed, told, announced, Conversation, joined, posted, heard}
use Rattle.xfs_conversation.specs.Pending.{Pending, has_id, is_pending, without_id}
use Rattle.xfs_conversation.specs.Parts.{HasStatus, pending_after, HasParts}
use Rattle.xfs_conversation.proofs.Lists.{ends, push_induction, each_front}
use Rattle.xfs_conversation.proofs.Parts.{heading, due, parts_of}

abbrev heading_with : Option ℕ → Option (List ℕ) → Option Status → Heading
heading_with id name status = record { id = id; name = name; is_invalid_message = is_invalid_message status }

-- the acknowledge of a text, by its heading and its status
misread_by : (pending : List Pending) (refuse : Refuse) (status : Option Status) → is_invalid_message status ≡ true
    → (after : List Pending) × Acknowledges pending (Err refuse) (Some (acknowledge refuse.id None status)) after
misread_by pending refuse None e = absurd cc
misread_by pending refuse (Some InvalidMessage) e = (pending, misread refuse)
misread_by pending refuse (Some InvalidRequestId) e = absurd cc
misread_by pending refuse (Some TooManyRequests) e = absurd cc

answered_by : (pending : List Pending) (c : Command) (status : Option Status) → is_invalid_message status ≡ false → HasStatus pending (Some (acknowledge (Some c.id) (Some c.name) status))
    → (after : List Pending) × Acknowledges pending (Ok c) (Some (acknowledge (Some c.id) (Some c.name) status)) after
answered_by pending c None e has = (_, accepted c (sym (has e)))
answered_by pending c (Some InvalidMessage) e has = absurd cc
answered_by pending c (Some InvalidRequestId) e has = (_, misnumbered c (sym (has e)))
answered_by pending c (Some TooManyRequests) e has = (_, crowded c (sym (has e)))

acknowledged_by : (pending : List Pending) (t : Result Command Refuse) (id : Option ℕ) (name : Option (List ℕ)) (status : Option Status)
    → heading_with id name status ≡ heading_of t → HasStatus pending (Some (acknowledge id name status))
    → (after : List Pending) × Acknowledges pending t (Some (acknowledge id name status)) after
acknowledged_by pending (Err refuse) id name status same has =
    rw (ap (λ (h : Heading). h.id) same, ap (λ (h : Heading). h.name) same) (misread_by pending refuse status (ap (λ (h : Heading). h.is_invalid_message) same))
acknowledged_by pending (Ok c) id name status same has =
    let its : id ≡ Some c.id = ap (λ (h : Heading). h.id) same in
    let named : name ≡ Some c.name = ap (λ (h : Heading). h.name) same in
    rw (its, named) (answered_by pending c status (ap (λ (h : Heading). h.is_invalid_message) same) (rw its at has))

-- a pending id is that of a command
pub pending_there : (id : ℕ) (pending : List Pending) → is_pending pending id ≡ true → (p : Pending) × Contains pending p × (p.id ≡ id)
pending_there id [] h = absurd cc
pending_there id (p ∷ pending) h = elim (cases_Bool (has_id id p)) [
  | inl y ↦ (p, (zero, omega arith, refl), eqb-true p.id id y)
  | inr n ↦ let rest = pending_there id pending (rw n at h) in (rest.0, Contains-append_right (p ∷ []) pending rest.0 rest.1, rest.2)
]

-- the parts without the last frame
front_parts : {texts : List (List ℕ)} {pending : List Pending} (earlier frames : List (List ℕ)) (frame : List ℕ) → filter_map heading frames ≡ map due earlier
    → HasParts texts (frames ++ frame ∷ []) pending → HasParts earlier frames (pending_after frames)
front_parts earlier frames frame headings parts = record {
  acknowledges = headings;
  statuses = each_front _ frames frame parts.statuses;
  completions = each_front _ frames frame parts.completions;
  events = each_front _ frames frame parts.events;
  left = refl;
  answers = each_front _ frames frame parts.answers;
}

headings_front : (texts frames : List (List ℕ)) (frame : List ℕ) → heading frame ≡ None → filter_map heading (frames ++ frame ∷ []) ≡ map due texts → filter_map heading frames ≡ map due texts
headings_front texts frames frame none h = sym (append-nil (filter_map heading frames)) ∙ (rw (filter_map-append heading frames (frame ∷ []), none) at h)

-- what a front is, the whole is by its last frame
abbrev IsTalk : List (List ℕ) → Type 0
IsTalk frames = (texts : List (List ℕ)) (pending : List Pending) → HasParts texts frames pending → Conversation texts frames pending

-- the pending commands are told by the frames
same_pending : {texts frames : List (List ℕ)} {after pending : List Pending} → HasParts texts frames pending → Conversation texts frames after → Conversation texts frames pending
same_pending {texts} {frames} parts h = subst (λ l. Conversation texts frames l) ((parts_of h).left ∙ sym parts.left) h

posted_last : (frames : List (List ℕ)) (frame : List ℕ) → IsTalk frames → (texts : List (List ℕ)) (pending : List Pending) → HasParts texts (frames ++ frame ∷ []) pending
    → (id : Option ℕ) (name : Option (List ℕ)) (status : Option Status) → reply_in frame ≡ Some (acknowledge id name status) → Conversation texts (frames ++ frame ∷ []) pending
posted_last frames frame front texts pending parts id name status says =
    let headings : filter_map heading frames ++ heading_with id name status ∷ [] ≡ map due texts = rw (filter_map-append heading frames (frame ∷ []), says) at parts.acknowledges in
    elim (ends texts) [
      | inl e ↦ absurd (not_empty (filter_map heading frames) (rw e at headings))
      | inr r ↦
          let both = same_from_push (filter_map heading frames) (map due r.0) (heading_with id name status) (due r.1) (headings ∙ (rw r.2 (map-append due r.0 (r.1 ∷ [])))) in
          let h : Conversation r.0 frames (pending_after frames) = front r.0 (pending_after frames) (front_parts r.0 frames frame both.0 parts) in
          let has : HasStatus (pending_after frames) (Some (acknowledge id name status)) = rw says at (parts.statuses frames [] frame refl) in
          let a = acknowledged_by (pending_after frames) (command_in r.1) id name status both.1 has in
          let talk : Conversation (r.0 ++ r.1 ∷ []) (frames ++ frame ∷ []) a.0 = posted h r.1 frame (rw says a.1) in
          same_pending parts (subst (λ l. Conversation l (frames ++ frame ∷ []) a.0) (sym r.2) talk)
    ]
  where
    not_empty : (hs : List Heading) → hs ++ heading_with id name status ∷ [] ≡ [] → ⊥
    not_empty [] e = cc
    not_empty (h ∷ hs) e = cc

heard_last : (frames : List (List ℕ)) (frame : List ℕ) → IsTalk frames → (texts : List (List ℕ)) (pending : List Pending) → HasParts texts (frames ++ frame ∷ []) pending
    → heading frame ≡ None → (after : List Pending) → Says (pending_after frames) (reply_in frame) after → Conversation texts (frames ++ frame ∷ []) pending
heard_last frames frame front texts pending parts none after tells =
    let headings : filter_map heading frames ≡ map due texts = headings_front texts frames frame none parts.acknowledges in
    same_pending parts (heard (front texts (pending_after frames) (front_parts texts frames frame headings parts)) frame tells)

-- the last frame, by what it says
last : (frames : List (List ℕ)) (frame : List ℕ) → IsTalk frames → (texts : List (List ℕ)) (pending : List Pending) → HasParts texts (frames ++ frame ∷ []) pending
    → (r : Option Reply) → reply_in frame ≡ r → Conversation texts (frames ++ frame ∷ []) pending
last frames frame front texts pending parts None says = let answer : false ≡ true = rw says at (parts.answers frames [] frame refl) in absurd cc
last frames frame front texts pending parts (Some (acknowledge id name status)) says = posted_last frames frame front texts pending parts id name status says
last frames frame front texts pending parts (Some (event id name payload)) says =
    let found = pending_there id (pending_after frames) (rw says at (parts.events frames [] frame refl)) in
    let tells : Says (pending_after frames) (Some (event found.0.id name payload)) (pending_after frames) = told found.0 name payload found.1 in
    heard_last frames frame front texts pending parts (ap heading_in says) (pending_after frames) (rw (says, sym found.2) tells)
last frames frame front texts pending parts (Some (completion id name code payload)) says =
    let there = rw says at (parts.completions frames [] frame refl) in
    heard_last frames frame front texts pending parts (ap heading_in says) (without_id id (pending_after frames)) (rw says (completed record { id = id; name = name } code payload there))
last frames frame front texts pending parts (Some (unsolicited name payload)) says =
    heard_last frames frame front texts pending parts (ap heading_in says) (pending_after frames) (rw says (announced name payload))

pub conversation_of : (frames : List (List ℕ)) → IsTalk frames
conversation_of = push_induction IsTalk none (λ frames frame front texts pending parts. last frames frame front texts pending parts (reply_in frame) refl)
  where
    none : IsTalk []
    none [] pending parts = rw parts.left joined
    none (text ∷ texts) pending parts = absurd (nothing parts.acknowledges)
      where
        nothing : [] ≡ due text ∷ map due texts → ⊥
        nothing e = cc
