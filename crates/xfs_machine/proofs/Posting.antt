-- What becomes of a text, from what was sent and what was done with the pending commands.
use Rattle.std.proofs.Common.{◌≡◌, ℕ, Bool, true, false, not, List, [], ◌∷◌, Option, None, Some, Result, Ok, Err, refl, ap, sym, ◌∙◌}
use Rattle.std.specs.Prelude.{if◌then◌else◌}
use Rattle.std.specs.List.{list_any}
use Rattle.std.proofs.lemmas.Bool.{false≢true, or_parts}
use Rattle.serde_json.specs.Data.{Data}
use Rattle.xfs_base.specs.declared.moment.ClientId.{ClientId}
use Rattle.xfs_common.specs.Cancel.{request_ids}
use Rattle.xfs_common.specs.Commands.{immediate_of}
use Rattle.xfs_common.specs.declared.command.Immediate.{Immediate}
use Rattle.xfs_common.specs.declared.command.Immediate.TheVariants as immediate
use Rattle.xfs_common.specs.Payloads.{nothing}
use Rattle.xfs_common.specs.declared.error.ErrorCode.TheVariants.{NoMatchingRequestIds}
use Rattle.xfs_conversation.specs.Pending.{is_pending, is_request_id, is_wrong_id}
use Rattle.xfs_envelope.specs.Commands as envelope
use Rattle.xfs_envelope.specs.declared.code.Code.TheVariants.{InvalidCommand, InvalidData}
use Rattle.xfs_envelope.specs.declared.code.Status.{Status}
use Rattle.xfs_envelope.specs.declared.code.Status.TheVariants.{InvalidMessage, InvalidRequestId, TooManyRequests}
use Rattle.xfs_envelope.specs.declared.command.Refuse.{Refuse}
use Rattle.xfs_json.specs.declared.members.Shape.{Shape}
use Rattle.xfs_traffic.specs.Parts.{with_traffic}
use Rattle.xfs_traffic.specs.Senders.{IsCompleted, IsTurnedAway}
use Rattle.xfs_traffic.specs.declared.accepting.Sender.{Sender}
use Rattle.xfs_traffic.specs.declared.traffic.Traffic.{Traffic}
use Rattle.xfs_model.specs.Commands.{known_of}
use Rattle.xfs_model.specs.declared.known.Known.{Known}
use Rattle.xfs_model.specs.Immediate.{AtOnce, ComesTo, ResultsIn, canceling, done_at_once, done_by, ids_of, stopped, told_of}
use Rattle.xfs_model.specs.PresentStatus.{TellsPresented, nonce_in}
use Rattle.xfs_model.specs.Pendings.{pending_in}
use Rattle.xfs_model.specs.Posts.{Accepts, DoesAtOnce, Refuses, TakesText}
use Rattle.xfs_model.specs.Results.{error, plain, success}
use Rattle.xfs_model.specs.State.{Connection, Job, Outcome, State, queue_at, queue_of, with_queue}
use Rattle.xfs_queue.specs.Queue.{is_crowded, is_named, offer_fault}
use Rattle.xfs_queue.specs.declared.command.Command.{Command}
use Rattle.xfs_queue.specs.declared.command.OfferFault.{OfferFault}
use Rattle.xfs_queue.specs.declared.command.OfferFault.TheVariants.{Busy, TooMany, Memory}
use Rattle.xfs_traffic.specs.Senders.{mailed}
use Rattle.xfs_machine.specs.Immediate.{is_told}
use Rattle.xfs_model.proofs.Pendings.{is_pending_there}
use Rattle.xfs_model.proofs.Queues.{with_same_queue}
use Rattle.xfs_queue.specs.Commands.{is_at}

module _ (s : State) (k : Connection) (payload : Data) where
  does_tell : (command : Option Immediate) → is_told command ≡ true → done_by s k payload command ≡ record { result = told_of s k.service command; queue = queue_at s k.service }
  does_tell None is = refl
  does_tell (Some immediate.Status) is = refl
  does_tell (Some immediate.Capabilities) is = refl
  does_tell (Some immediate.Cancel) is = absurd (false≢true is)
  does_tell (Some immediate.GetServices) is = refl
  does_tell (Some immediate.GetStorage) is = refl
  does_tell (Some immediate.GetPresentStatus) is = absurd (false≢true is)

  results_in : (command : Option Immediate) → is_told command ≡ true → (result : Outcome) → result ≡ told_of s k.service command → ResultsIn s k payload command result
  results_in None is result told = told
  results_in (Some immediate.Status) is result told = told
  results_in (Some immediate.Capabilities) is result told = told
  results_in (Some immediate.Cancel) is result told = absurd (false≢true is)
  results_in (Some immediate.GetServices) is result told = told
  results_in (Some immediate.GetStorage) is result told = told
  results_in (Some immediate.GetPresentStatus) is result told = absurd (false≢true is)

abbrev pub is_busy : Option OfferFault → Bool
is_busy None = false
is_busy (Some Busy) = true
is_busy (Some TooMany) = false
is_busy (Some Memory) = false

-- an id that a command may have is wrong where it is pending
pub wrong : (q : List (Command Job)) (client : ClientId) (id : ℕ) → is_request_id id ≡ true → (fault : Option OfferFault) → fault ≡ offer_fault q client id → is_busy fault ≡ is_wrong_id (pending_in client q) id
wrong q client id usable fault is = rw (usable, is) (go (list_any (is_at record { client = client; id = id }) q) (is_crowded q client) ∙ sym (is_pending_there client id q))
  where
    go : (a b : Bool) → is_busy (if a then Some Busy else if b then Some TooMany else None) ≡ a
    go true b = refl
    go false true = refl
    go false false = refl

-- where the id is right, what stands against a command is that too many are pending
module _ (q : List (Command Job)) (client : ClientId) (id : ℕ) (right : is_wrong_id (pending_in client q) id ≡ false) where
  unheld : list_any (is_at record { client = client; id = id }) q ≡ false
  unheld = sym (is_pending_there client id q) ∙ (or_parts (not (is_request_id id)) (is_pending (pending_in client q) id) right).1

  pub is_full : (fault : OfferFault) → offer_fault q client id ≡ Some fault → is_crowded q client ≡ true
  is_full fault e = go (is_crowded q client) (rw unheld at e)
    where
      go : (b : Bool) → (if b then Some TooMany else None) ≡ Some fault → b ≡ true
      go true e = refl
      go false e = absurd cc

  pub is_roomy : offer_fault q client id ≡ None → is_crowded q client ≡ false
  is_roomy e = go (is_crowded q client) (rw unheld at e)
    where
      go : (b : Bool) → (if b then Some TooMany else None) ≡ None → b ≡ false
      go true e = absurd cc
      go false e = refl

module _ (s : State) (k : Connection) (sender : Sender) (client : k.client ≡ sender.client) (service : k.service ≡ sender.service) where
  pub refuses : (id : Option ℕ) (name : Option (List ℕ)) (why : Status) (old : Traffic) (ks : List Connection) → IsTurnedAway sender id name why old.connections ks
      → Refuses (with_traffic s old) k id name why (with_traffic s (record old { connections = ks }))
  refuses id name why old ks is = record {
    reply = is.reply;
    acknowledges = is.acknowledges;
    is = rw (client, service) (ap (λ l. with_traffic s (record old { connections = l })) is.is);
  }

  pub misread : (refuse : Refuse) (old : Traffic) (ks : List Connection) → IsTurnedAway sender refuse.id None InvalidMessage old.connections ks
      → TakesText (with_traffic s old) k (Err refuse) (with_traffic s (record old { connections = ks }))
  misread refuse old ks is = refuses refuse.id None InvalidMessage old ks is

  pub misnumbered : (c : envelope.Command) (old : Traffic) (ks : List Connection) → is_wrong_id (pending_in sender.client (queue_of old.queues sender.service)) c.id ≡ true
      → IsTurnedAway sender (Some c.id) (Some c.name) InvalidRequestId old.connections ks → TakesText (with_traffic s old) k (Ok c) (with_traffic s (record old { connections = ks }))
  misnumbered c old ks wrong is =
      let here : is_wrong_id (pending_in k.client (queue_of old.queues k.service)) c.id ≡ true = rw (client, service) wrong in
      rw here (refuses (Some c.id) (Some c.name) InvalidRequestId old ks is)

  pub at_once : (c : envelope.Command) (old new : Traffic) → is_wrong_id (pending_in sender.client (queue_of old.queues sender.service)) c.id ≡ false
      → known_of sender.service c.name ≡ None → DoesAtOnce (with_traffic s old) k c (with_traffic s new) → TakesText (with_traffic s old) k (Ok c) (with_traffic s new)
  at_once c old new right none does =
      let fine : is_wrong_id (pending_in k.client (queue_of old.queues k.service)) c.id ≡ false = rw (client, service) right in
      let unknown : known_of k.service c.name ≡ None = rw service none in
      rw fine (rw unknown does)

  pub crowded : (c : envelope.Command) (command : Known) (old : Traffic) (ks : List Connection) → is_wrong_id (pending_in sender.client (queue_of old.queues sender.service)) c.id ≡ false
      → known_of sender.service c.name ≡ Some command → is_crowded (queue_of old.queues sender.service) sender.client ≡ true
      → IsTurnedAway sender (Some c.id) (Some c.name) TooManyRequests old.connections ks → TakesText (with_traffic s old) k (Ok c) (with_traffic s (record old { connections = ks }))
  crowded c command old ks right named many is =
      let fine : is_wrong_id (pending_in k.client (queue_of old.queues k.service)) c.id ≡ false = rw (client, service) right in
      let on : known_of k.service c.name ≡ Some command = rw service named in
      let full : is_crowded (queue_of old.queues k.service) k.client ≡ true = rw (client, service) many in
      rw fine (rw on (rw full (refuses (Some c.id) (Some c.name) TooManyRequests old ks is)))

  pub accepted : (c : envelope.Command) (command : Known) (old new : Traffic) → is_wrong_id (pending_in sender.client (queue_of old.queues sender.service)) c.id ≡ false
      → known_of sender.service c.name ≡ Some command → is_crowded (queue_of old.queues sender.service) sender.client ≡ false
      → Accepts (with_traffic s old) k command c (with_traffic s new) → TakesText (with_traffic s old) k (Ok c) (with_traffic s new)
  accepted c command old new right named few is =
      let fine : is_wrong_id (pending_in k.client (queue_of old.queues k.service)) c.id ≡ false = rw (client, service) right in
      let on : known_of k.service c.name ≡ Some command = rw service named in
      let room : is_crowded (queue_of old.queues k.service) k.client ≡ false = rw (client, service) few in
      rw fine (rw on (rw room is))

  -- the result, whatever it rests on, and the pending commands then
  comes_ : (c : envelope.Command) (did : AtOnce) (result : Outcome) (old new : Traffic) → done_at_once (with_traffic s old) k c ≡ did → ComesTo (with_traffic s old) k c result
      → IsCompleted sender c result old.connections new.connections → new.queues ≡ with_queue old.queues sender.service did.queue → DoesAtOnce (with_traffic s old) k c (with_traffic s new)
  comes_ c did result old new does comes is f = record {
    reply = is.reply;
    last = is.last;
    result = result;
    comes = comes;
    acknowledges = is.acknowledges;
    completes = is.completes;
    is = rw (does, client, service) (ap (λ l. with_traffic s (record new { connections = l })) is.is ∙ ap (λ q. with_traffic s (record { connections = mailed sender (is.reply ∷ is.last ∷ []) old.connections; queues = q })) f);
  }

  pub tells : (c : envelope.Command) (command : Option Immediate) (result : Outcome) (old : Traffic) (ks : List Connection) → immediate_of sender.service c.name ≡ command → is_told command ≡ true
      → result ≡ told_of (with_traffic s old) sender.service command → IsCompleted sender c result old.connections ks → DoesAtOnce (with_traffic s old) k c (with_traffic s (record old { connections = ks }))
  tells c command result old ks named tell told is =
      let here : immediate_of k.service c.name ≡ command = rw service named in
      let same : result ≡ told_of (with_traffic s old) k.service command = rw service told in
      comes_ c (record { result = told_of (with_traffic s old) k.service command; queue = queue_of old.queues k.service }) result old (record old { connections = ks })
      (rw here (does_tell (with_traffic s old) k c.payload command tell)) (rw here (results_in (with_traffic s old) k c.payload command tell result same)) is
      (rw service (sym (with_same_queue old.queues sender.service)))

  pub tells_presents : (c : envelope.Command) (result : Outcome) (old : Traffic) (ks : List Connection) → immediate_of sender.service c.name ≡ Some immediate.GetPresentStatus
      → TellsPresented s.seen.guard (nonce_in c.payload) result → IsCompleted sender c result old.connections ks → DoesAtOnce (with_traffic s old) k c (with_traffic s (record old { connections = ks }))
  tells_presents c result old ks named tells is =
      let here : immediate_of k.service c.name ≡ Some immediate.GetPresentStatus = rw service named in
      comes_ c (record { result = plain InvalidCommand; queue = queue_of old.queues k.service }) result old (record old { connections = ks }) (rw here refl) (rw here tells) is
      (rw service (sym (with_same_queue old.queues sender.service)))

  cancels : (c : envelope.Command) (ids : Result (Option (List ℕ)) Shape) (did : AtOnce) (old new : Traffic) → immediate_of sender.service c.name ≡ Some immediate.Cancel → request_ids c.payload ≡ ids
      → canceling (queue_of old.queues sender.service) sender.client ids ≡ did
      → IsCompleted sender c did.result old.connections new.connections → new.queues ≡ with_queue old.queues sender.service did.queue → DoesAtOnce (with_traffic s old) k c (with_traffic s new)
  cancels c ids did old new name asks comes is f =
      let here : immediate_of k.service c.name ≡ Some immediate.Cancel = rw service name in
      let does : canceling (queue_of old.queues k.service) k.client (request_ids c.payload) ≡ did = rw (asks, client, service) comes in
      comes_ c did did.result old new (rw here does) (rw here (ap (λ (d : AtOnce). d.result) (sym does))) is f

  pub cancels_badly : (c : envelope.Command) (shape : Shape) (old : Traffic) (ks : List Connection) → immediate_of sender.service c.name ≡ Some immediate.Cancel → request_ids c.payload ≡ Err shape
      → IsCompleted sender c (plain InvalidData) old.connections ks → DoesAtOnce (with_traffic s old) k c (with_traffic s (record old { connections = ks }))
  cancels_badly c shape old ks name asks is =
      cancels c (Err shape) (record { result = plain InvalidData; queue = queue_of old.queues sender.service }) old (record old { connections = ks }) name asks refl is (sym (with_same_queue old.queues sender.service))

  pub cancels_none : (c : envelope.Command) (ids : Option (List ℕ)) (old : Traffic) (ks : List Connection) → immediate_of sender.service c.name ≡ Some immediate.Cancel → request_ids c.payload ≡ Ok ids
      → list_any (is_named sender.client (ids_of ids)) (queue_of old.queues sender.service) ≡ false
      → IsCompleted sender c (error NoMatchingRequestIds) old.connections ks → DoesAtOnce (with_traffic s old) k c (with_traffic s (record old { connections = ks }))
  cancels_none c ids old ks name asks none is =
      cancels c (Ok ids) (record { result = error NoMatchingRequestIds; queue = queue_of old.queues sender.service }) old (record old { connections = ks }) name asks (rw none refl) is (sym (with_same_queue old.queues sender.service))

  pub cancels_some : (c : envelope.Command) (ids : Option (List ℕ)) (old new : Traffic) → immediate_of sender.service c.name ≡ Some immediate.Cancel → request_ids c.payload ≡ Ok ids
      → list_any (is_named sender.client (ids_of ids)) (queue_of old.queues sender.service) ≡ true
      → IsCompleted sender c (success nothing) old.connections new.connections → new.queues ≡ with_queue old.queues sender.service (stopped (queue_of old.queues sender.service) sender.client (ids_of ids)) → DoesAtOnce (with_traffic s old) k c (with_traffic s new)
  cancels_some c ids old new name asks some is f =
      cancels c (Ok ids) (record { result = success nothing; queue = stopped (queue_of old.queues sender.service) sender.client (ids_of ids) }) old new name asks (rw some refl) is f
