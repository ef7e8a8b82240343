-- A command that is completed as soon as it is accepted leaves the pending ones as they were.
use Rattle.std.proofs.Common.{◌≡◌, ℕ, true, false, not, List, [], ◌∷◌, ◌++◌, refl, ap, subst}
use Rattle.std.proofs.lemmas.Bool.{eq-eqb, or_parts}
use Rattle.std.proofs.lemmas.List.{append_assoc}
use Rattle.std.proofs.lemmas.List.Elements.{Contains-push}
use Rattle.xfs_envelope.specs.Commands.{command_in}
use Rattle.xfs_envelope.specs.Replies.{reply_in}
use Rattle.xfs_conversation.specs.Conversation.{Acknowledges, accepted, Says, completed, Conversation, posted, heard}
use Rattle.xfs_conversation.specs.Immediate.{IsImmediate}
use Rattle.xfs_conversation.specs.Pending.{Pending, pending_of, has_id, is_pending, is_request_id, without_id}

pub without_pushed : (pending : List Pending) (p : Pending) → is_pending pending p.id ≡ false → without_id p.id (pending ++ p ∷ []) ≡ pending
without_pushed [] p none = let here : has_id p.id p ≡ true = eq-eqb p.id p.id refl in rw here refl
without_pushed (q ∷ pending) p none =
    let parts = or_parts (has_id p.id q) (is_pending pending p.id) none in
    rw parts.0 (ap (λ l. q ∷ l) (without_pushed pending p parts.1))

pub completed_at_once : (texts frames : List (List ℕ)) (pending : List Pending) (text first second : List ℕ) → Conversation texts frames pending → IsImmediate pending text first second
    → Conversation (texts ++ text ∷ []) (frames ++ first ∷ second ∷ []) pending
completed_at_once texts frames pending text first second h is =
    let p = pending_of is.command in
    let takes : Acknowledges pending (command_in text) (reply_in first) (pending ++ p ∷ []) = rw (is.asks, is.accepts) (accepted is.command is.right) in
    let ends : Says (pending ++ p ∷ []) (reply_in second) (without_id p.id (pending ++ p ∷ [])) = rw is.completes (completed p is.code is.payload (Contains-push pending p)) in
    let both = heard (posted h text first takes) second ends in
    let none : is_pending pending p.id ≡ false = (or_parts (not (is_request_id p.id)) (is_pending pending p.id) is.right).1 in
    let one_by_one : Conversation (texts ++ text ∷ []) (frames ++ first ∷ [] ++ second ∷ []) pending = subst (λ l. Conversation (texts ++ text ∷ []) (frames ++ first ∷ [] ++ second ∷ []) l) (without_pushed pending p none) both in
    subst (λ l. Conversation (texts ++ text ∷ []) l pending) (append_assoc frames (first ∷ []) (second ∷ [])) one_by_one
