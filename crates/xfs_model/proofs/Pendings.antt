-- The pending commands of a client, after each change of its service's queue.
use Rattle.std.proofs.Common.{◌≡◌, ℕ, zero, ◌==◌, ◌&&◌, ◌||◌, not, Bool, true, false, cond, List, [], ◌∷◌, ◌++◌, Option, Some, Result, Ok, Err, map, filter, find, Contains, refl, ap, ◌∙◌, inl, inr, arith}
use Rattle.std.specs.List.{list_any, cons_option}
use Rattle.std.proofs.lemmas.Bool.{cases_Bool, and_parts, eqb-true}
use Rattle.std.proofs.lemmas.List.{append-nil}
use Rattle.std.proofs.lemmas.List.Elements.{filter_map-append, Contains-append_right}
use Rattle.std.proofs.lemmas.Option.{none-some}
use Rattle.xfs_base.specs.declared.moment.ClientId.{ClientId}
use Rattle.xfs_queue.specs.declared.command.Command.{Command}
use Rattle.xfs_queue.specs.declared.command.Ticket.{Ticket}
use Rattle.xfs_queue.specs.declared.command.Ids.{Ids}
use Rattle.xfs_queue.specs.Commands.{is_at, is_of, is_running, is_waiting}
use Rattle.xfs_queue.specs.Queue.{canceled, is_named, without, without_client}
use Rattle.xfs_conversation.specs.Pending.{is_pending, without_id}
use Rattle.xfs_common.specs.Cancel.{request_ids}
use Rattle.xfs_common.specs.Payloads.{nothing}
use Rattle.xfs_common.specs.declared.error.ErrorCode.TheVariants.{NoMatchingRequestIds}
use Rattle.xfs_envelope.specs.Commands as envelope
use Rattle.xfs_envelope.specs.declared.code.Code.TheVariants.{Canceled}
use Rattle.xfs_json.specs.declared.members.Shape.{Shape}
use Rattle.xfs_common.specs.Commands.{immediate_of}
use Rattle.xfs_model.proofs.AtOnce.{by_command}
use Rattle.xfs_model.specs.State.{Connection, Job, State, queue_at}
use Rattle.xfs_model.specs.Pendings.{job_pending, known_to, pending_in}
use Rattle.xfs_model.specs.Results.{changed, error, plain, success, with_result}
use Rattle.xfs_model.specs.Immediate.{AtOnce, canceling, done_at_once, ids_of, stop, stopped}

-- a change that keeps client, id and name
pub pending-map : (mine : ClientId) (f : Command Job → Command Job) → ((a : Command Job) → known_to mine (f a) ≡ known_to mine a) → (q : List (Command Job)) → pending_in mine (map f q) ≡ pending_in mine q
pending-map mine f same [] = refl
pending-map mine f same (a ∷ q) = rw (same a, pending-map mine f same q) refl

known_changed : (mine : ClientId) (b : Bool) (f : Command Job → Command Job) (a : Command Job) → known_to mine (f a) ≡ known_to mine a → known_to mine (cond b (f a) a) ≡ known_to mine a
known_changed mine true f a same = same
known_changed mine false f a same = refl

pub pending_changed : (mine : ClientId) (f : Command Job → Command Job) → ((b : Command Job) → known_to mine (f b) ≡ known_to mine b) → (a : Command Job) (q : List (Command Job)) → pending_in mine (changed f a q) ≡ pending_in mine q
pending_changed mine f same a q = pending-map mine _ (λ b. known_changed mine _ f b (same b)) q

known_stopped : (mine : ClientId) (a : Command Job) → known_to mine (stop a) ≡ known_to mine a
known_stopped mine a = known_changed mine (is_waiting a.stage && a.marked) (with_result (plain Canceled)) a refl

pub pending_stopped : (mine : ClientId) (q : List (Command Job)) (client : ClientId) (ids : Ids) → pending_in mine (stopped q client ids) ≡ pending_in mine q
pending_stopped mine q client ids = pending-map mine _ (known_stopped mine) (canceled q client ids) ∙ pending-map mine _ (λ a. refl) q

canceling_if : (mine : ClientId) (q : List (Command Job)) (client : ClientId) (ids : Ids) (b : Bool)
    → pending_in mine (cond {A = AtOnce} b (record { result = success nothing; queue = stopped q client ids }) (record { result = error NoMatchingRequestIds; queue = q })).queue ≡ pending_in mine q
canceling_if mine q client ids true = pending_stopped mine q client ids
canceling_if mine q client ids false = refl

pending_canceling : (mine : ClientId) (q : List (Command Job)) (client : ClientId) (ids : Result (Option (List ℕ)) Shape) → pending_in mine (canceling q client ids).queue ≡ pending_in mine q
pending_canceling mine q client (Err shape) = refl
pending_canceling mine q client (Ok ids) = canceling_if mine q client (ids_of ids) (list_any (is_named client (ids_of ids)) q)

-- what is done at once leaves the pending commands as they were
pub pending_at_once : (mine : ClientId) (s : State) (k : Connection) (c : envelope.Command) → pending_in mine (done_at_once s k c).queue ≡ pending_in mine (queue_at s k.service)
pending_at_once mine s k c = by_command s k c.payload (λ did. pending_in mine did.queue ≡ pending_in mine (queue_at s k.service)) (immediate_of k.service c.name)
    (λ is. pending_canceling mine (queue_at s k.service) k.client (request_ids c.payload)) refl

-- a new command
pub pending_push_mine : (mine : ClientId) (q : List (Command Job)) (a : Command Job) → is_of mine a ≡ true → pending_in mine (q ++ a ∷ []) ≡ pending_in mine q ++ job_pending a ∷ []
pending_push_mine mine q a y = rw (filter_map-append (known_to mine) q (a ∷ [])) (rw y refl)

pub pending_push_other : (mine : ClientId) (q : List (Command Job)) (a : Command Job) → is_of mine a ≡ false → pending_in mine (q ++ a ∷ []) ≡ pending_in mine q
pending_push_other mine q a n = rw (filter_map-append (known_to mine) q (a ∷ [])) (rw n (append-nil _))

-- a command that is gone
pub pending_without_mine : (mine : ClientId) (t : Ticket) → t.client.0 ≡ mine.0 → (q : List (Command Job)) → pending_in mine (without q t) ≡ without_id t.id (pending_in mine q)
pending_without_mine mine t e [] = refl
pending_without_mine mine t e (a ∷ q) = rw e (elim (cases_Bool (is_of mine a)) [
  | inl y ↦ rw y (elim (cases_Bool (a.id == t.id)) [
    | inl z ↦ rw (z) (pending_without_mine mine t e q)
    | inr m ↦ rw (m) (rw y (ap (λ l. job_pending a ∷ l) (pending_without_mine mine t e q)))
  ])
  | inr n ↦ rw n (rw n (pending_without_mine mine t e q))
])

pub pending_without_other : (mine : ClientId) (t : Ticket) → (t.client.0 == mine.0) ≡ false → (q : List (Command Job)) → pending_in mine (without q t) ≡ pending_in mine q
pending_without_other mine t other [] = refl
pending_without_other mine t other (a ∷ q) = elim (cases_Bool (is_at t a)) [
  | inl y ↦
      let same : a.client.0 ≡ t.client.0 = eqb-true _ _ ((and_parts _ _ y).0) in
      let n : is_of mine a ≡ false = ap (λ c. c == mine.0) same ∙ other in
      rw y (rw n (pending_without_other mine t other q))
  | inr m ↦ rw m (ap (cons_option (known_to mine a)) (pending_without_other mine t other q))
]

-- another client that leaves
pub pending_without_client : (mine client : ClientId) → (client.0 == mine.0) ≡ false → (q : List (Command Job)) → pending_in mine (without_client q client) ≡ pending_in mine q
pending_without_client mine client other q = pending-map mine _ (λ a. refl) _ ∙ kept q
  where
    kept : (q : List (Command Job)) → pending_in mine (filter (λ a. not (is_of client a) || is_running a.stage) q) ≡ pending_in mine q
    kept [] = refl
    kept (a ∷ q) = elim (cases_Bool (is_of client a)) [
      | inl y ↦
          let same : a.client.0 ≡ client.0 = eqb-true _ _ y in
          let n : is_of mine a ≡ false = ap (λ c. c == mine.0) same ∙ other in
          elim (cases_Bool (is_running a.stage)) [
            | inl z ↦ rw (y, z) (ap (cons_option (known_to mine a)) (kept q))
            | inr m ↦ rw (y, m) (rw n (kept q))
          ]
      | inr m ↦ rw m (ap (cons_option (known_to mine a)) (kept q))
    ]

-- a command that is found is known to its client
pub pending_found : (mine : ClientId) (p : Command Job → Bool) (q : List (Command Job)) (a : Command Job) → find p q ≡ Some a → is_of mine a ≡ true → Contains (pending_in mine q) (job_pending a)
pending_found mine p [] a found y = absurd (none-some a found)
pending_found mine p (b ∷ q) a found y = elim (cases_Bool (p b)) [
  | inl here ↦
      let same : b ≡ a = cc (rw here at found) in
      rw (same, y) (zero, omega arith, refl)
  | inr there ↦
      let rest = pending_found mine p q a (rw there at found) y in
      elim (cases_Bool (is_of mine b)) [
        | inl z ↦ rw z (Contains-append_right (job_pending b ∷ []) (pending_in mine q) (job_pending a) rest)
        | inr m ↦ rw m rest
      ]
]

-- an id is pending for its client where its command is in the queue
pub is_pending_there : (mine : ClientId) (id : ℕ) (q : List (Command Job)) → is_pending (pending_in mine q) id ≡ list_any (is_at record { client = mine; id = id }) q
is_pending_there mine id [] = refl
is_pending_there mine id (a ∷ q) = elim (cases_Bool (is_of mine a)) [
  | inl y ↦ rw y (ap (λ b. (a.id == id) || b) (is_pending_there mine id q))
  | inr n ↦ rw n (is_pending_there mine id q)
]
