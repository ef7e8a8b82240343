-- What is told of an ask is told of an open one.
use Rattle.std.proofs.Common.{◌≡◌, ℕ, List, [], ◌∷◌, Bool, true, false, cond, ◌&&◌, not, Option, Some, None, find, Ok, IfOk, refl, subst}
use Rattle.std.specs.List.{range_with_len}
use Rattle.std.specs.Option.{IfSome}
use Rattle.std.proofs.lemmas.Bool.{and_parts}
use Rattle.xfs_envelope.specs.declared.code.Status.{Status}
use Rattle.xfs_envelope.specs.Replies as reply
use Rattle.xfs_envelope.specs.Replies.{Reply, reply_in}
use Rattle.xfs_client.specs.History.{Told, Entry, asks, is_open, is_acknowledged, first_unacknowledged, open_ask, addressee, with_status, of_ask, told_by, told_of, told_in}
use Rattle.xfs_client.specs.Desks.{IsOpenTo}

found_passes : (p : ℕ → Bool) (xs : List ℕ) → IfSome (find p xs) (λ k. p k ≡ true)
found_passes p [] = tt
found_passes p (x ∷ xs) = here (p x) refl (found_passes p xs)
  where
    here : (b : Bool) → p x ≡ b → IfSome (find p xs) (λ k. p k ≡ true) → IfSome (cond b (Some x) (find p xs)) (λ k. p k ≡ true)
    here true e rest = e
    here false e rest = rest

module _ (h : List Entry) where
  open_ask_is : (id : ℕ) → IfSome (open_ask h id) (λ k. is_open h k ≡ true)
  open_ask_is id = here (is_open h id) refl
    where
      here : (b : Bool) → is_open h id ≡ b → IfSome (cond b (Some id) None) (λ k. is_open h k ≡ true)
      here true e = e
      here false e = tt

  weaker : (o : Option ℕ) → IfSome o (λ k. (is_open h k && not (is_acknowledged h k)) ≡ true) → IfSome o (λ k. is_open h k ≡ true)
  weaker None e = tt
  weaker (Some k) e = (and_parts _ _ e).0

  addressed_is : (id : Option ℕ) → IfSome (addressee h id) (λ k. is_open h k ≡ true)
  addressed_is None = weaker (first_unacknowledged h) (found_passes (λ id. is_open h id && not (is_acknowledged h id)) (range_with_len 1 (asks h)))
  addressed_is (Some id) = open_ask_is id

  told_of_open : (o : Option ℕ) (of : ℕ → Told) → ((k : ℕ) → is_open h k ≡ true → IsOpenTo h (of k)) → IfSome o (λ k. is_open h k ≡ true) → IfOk (of_ask o of) (IsOpenTo h)
  told_of_open None of each e = tt
  told_of_open (Some k) of each e = each k e

  status_told : (status : Option Status) (k : ℕ) → is_open h k ≡ true → IsOpenTo h (with_status status k)
  status_told None k e = e
  status_told (Some status) k e = e

  told_by_open : (r : Reply) → IfOk (told_by h r) (IsOpenTo h)
  told_by_open (reply.acknowledge id name status) = told_of_open (addressee h id) _ (status_told status) (addressed_is id)
  told_by_open (reply.event id name payload) = told_of_open (open_ask h id) _ (λ k e. e) (open_ask_is id)
  told_by_open (reply.completion id name code payload) = told_of_open (open_ask h id) _ (λ k e. e) (open_ask_is id)
  told_by_open (reply.unsolicited name payload) = tt

  told_in_open : (r : Option Reply) → IfOk (told_of h r) (IsOpenTo h)
  told_in_open None = tt
  told_in_open (Some r) = told_by_open r

  pub opened : (text : List ℕ) (t : Told) → told_in h text ≡ Ok t → IsOpenTo h t
  opened text t e = subst (λ r. IfOk r (IsOpenTo h)) e (told_in_open (reply_in text))
