-- Each step keeps what the machine keeps.
use Rattle.std.proofs.Common.{◌≡◌, ℕ, ◌+◌, ◌<◌, ◌≤◌, ◌==◌, ◌&&◌, not, nat_le, Bool, true, false, cond, MatchBool, MatchOption, List, [], ◌∷◌, ◌++◌, Option, None, Some, Result, Ok, Err, length, map, count_by, All, refl, ap, sym, ◌∙◌, inl, inr, arith}
use Rattle.std.specs.List.{list_any}
use Rattle.std.proofs.lemmas.Bool.{cases_Bool, and_right, or_parts}
use Rattle.std.proofs.lemmas.List.{length-append, length-map}
use Rattle.std.proofs.lemmas.List.Elements.{All-filter, All-map, All-nil, All-push}
use Rattle.std.proofs.lemmas.List.Kept.{AllPairs-filter}
use Rattle.std.proofs.lemmas.List.Quantifiers.{all_pairs_push}
use Rattle.std.proofs.lemmas.List.Sums.{length-filter, count_by-le-length}
use Rattle.xfs_base.specs.declared.moment.ClientId.{ClientId}
use Rattle.xfs_base.specs.declared.moment.Moment.{Moment}
use Rattle.xfs_base.specs.declared.moment.Service.{Service}
use Rattle.xfs_base.specs.declared.moment.Service.TheVariants.{Publisher, Card, Keys, Cash}
use Rattle.xfs_card.specs.Table as card_reader
use Rattle.xfs_card.specs.declared.state.CardEvent.{CardEvent}
use Rattle.xfs_card.specs.declared.state.CardEvent.TheVariants as card_event
use Rattle.xfs_common.specs.Cancel.{request_ids}
use Rattle.xfs_common.specs.Payloads.{nothing}
use Rattle.xfs_common.specs.declared.error.ErrorCode.TheVariants.{NoMatchingRequestIds}
use Rattle.xfs_conversation.specs.Pending.{is_pending, is_request_id, is_wrong_id}
use Rattle.xfs_dispenser.specs.Answers.{Start, told, planned, Went, more, done as ended_}
use Rattle.xfs_dispenser.specs.Seen.{Seen}
use Rattle.xfs_dispenser.specs.declared.plan.Plan.{Plan}
use Rattle.xfs_envelope.specs.Commands.{command_in}
use Rattle.xfs_envelope.specs.Commands as envelope
use Rattle.xfs_envelope.specs.declared.code.Code.TheVariants.{Canceled, TimeOut}
use Rattle.xfs_envelope.specs.declared.code.Status.TheVariants.{InvalidRequestId, TooManyRequests}
use Rattle.xfs_envelope.specs.declared.command.Refuse.{Refuse}
use Rattle.xfs_json.specs.declared.members.Shape.{Shape}
use Rattle.xfs_keyboard.specs.Keyboard as keyboard
use Rattle.xfs_keyboard.specs.declared.state.KeyEvent.{KeyEvent}
use Rattle.xfs_keyboard.specs.declared.state.KeyEvent.TheVariants as key_event
use Rattle.xfs_mech.specs.declared.touch.Touch.{Touch}
use Rattle.xfs_mech.specs.declared.touch.Touch.TheVariants.{CardIn, CardTaken, CardFault, Key, KeyFault, NotesTaken}
use Rattle.xfs_queue.specs.declared.command.Command.{Command}
use Rattle.xfs_queue.specs.declared.command.Ids.{Ids}
use Rattle.xfs_queue.specs.Commands.{is_at, is_due, is_of, is_running, is_waiting, ticket_of}
use Rattle.xfs_queue.specs.Queue.{IsQueue, canceled, is_named, offer_fault, offered, without, without_client, is_crowded}
use Rattle.xfs_queue.proofs.Kept.{queue_after_filter, queue_after_push, queue_canceled, queue_without_client}
use Rattle.xfs_model.specs.Cases.{AnswersFirst, BeginsAs, Does, DoesNonce, EndsLife, Stops, TakesNonce, WorksOnPlan, resulting, with_start, with_went}
use Rattle.xfs_common.specs.Commands.{immediate_of}
use Rattle.xfs_model.specs.declared.known.Known.{Known}
use Rattle.xfs_model.specs.Commands.{known_of, line_of}
use Rattle.xfs_model.specs.Connections.{announced, connection_at, connection_of, is_at as is_at_, is_client, is_service, left, sent, with_mail, with_queue_at, without_mail}
use Rattle.xfs_model.specs.Devices.{Hears, Saying, card_says, device_stopped, keyboard_says, with_keypad, with_saying, with_slot}
use Rattle.xfs_model.specs.Events.{Answer, Event, join, post, touch, work, outbox, leave, restart, end_, finish, joined, full, done, handed, restarted, unrestarted, ended, unsettled}
use Rattle.xfs_model.specs.Immediate.{AtOnce, canceling, done_at_once, ids_of, stop, stopped}
use Rattle.xfs_model.specs.Kept.{IsMachine}
use Rattle.xfs_model.specs.Pendings.{pending_in}
use Rattle.xfs_model.specs.Posts.{Accepts, Refuses, TakesText, TakesOn, job_of}
use Rattle.xfs_model.specs.Results.{changed, error, plain, success, with_result}
use Rattle.xfs_model.specs.State.{Ask, issue, clear, cash, card, entry, bad, Connection, Job, Outcome, Pass, State, bare, queue_at}
use Rattle.xfs_model.specs.Step.{Happens, HandsOver, Joins, DropsClient, Posts, Step, at_moment, happens, wanting}
use Rattle.xfs_model.specs.Touches.{CardSays, IsHeard, TakesNotes, Touches, TouchesCard, TouchesKeys, failed, running_at, shut, took}
use Rattle.xfs_model.specs.Work as working
use Rattle.xfs_model.specs.Work.{case_of}
use Rattle.xfs_model.proofs.Changes.{KeepsTicket, NotBoth, changed_begins, changed_ends, changed_runs, clients_changed, each, queue_after_map}
use Rattle.xfs_queue.proofs.Kept.{AllPairs-map}
use Rattle.xfs_model.proofs.Pendings.{is_pending_there}
use Rattle.xfs_model.proofs.Queues.{queue_here, queue_there}
use Rattle.xfs_model.proofs.Talks.{client_with_mail}
use Rattle.xfs_model.proofs.AtOnce.{by_command}
use Rattle.xfs_model.proofs.Wanting.{unmoved}
use Rattle.std.proofs.lemmas.Option.{none-some}
use Rattle.xfs_model.proofs.Marks.{stop_ticket}
use Rattle.xfs_model.proofs.Lists.{found_all}

abbrev Rising : Connection → Connection → Type 0
Rising a b = a.client.0 < b.client.0

-- a machine with the same connections and commands
pub aside : (s t : State) → t.connections ≡ s.connections → t.queues ≡ s.queues → t.given ≡ s.given → IsMachine s → IsMachine t
aside s t ks qs given is = record {
  room = rw ks is.room;
  rising = rw ks is.rising;
  connections = rw (ks, given) is.connections;
  queues = λ service. rw qs (is.queues service);
  commands = λ service. rw (qs, given) (is.commands service);
}

with_queue_ : (s : State) (service : Service) (q : List (Command Job)) → IsQueue q → All (λ a. a.client.0 ≤ s.given) q → IsMachine s → IsMachine (with_queue_at s service q)
with_queue_ s service q is_queue clients is = record {
  room = is.room;
  rising = is.rising;
  connections = is.connections;
  queues = λ b. elim (cases_Bool (is_service service b)) [
    | inl y ↦ rw (queue_here s.queues service b q y) is_queue
    | inr n ↦ rw (queue_there s.queues service b q n) (is.queues b)
  ];
  commands = λ b. elim (cases_Bool (is_service service b)) [
    | inl y ↦ rw (queue_here s.queues service b q y) clients
    | inr n ↦ rw (queue_there s.queues service b q n) (is.commands b)
  ];
}

-- a change of each connection that keeps its client
with_each : (s : State) (f : Connection → Connection) → ((k : Connection) → (f k).client ≡ k.client) → IsMachine s → IsMachine (record s { connections = map f s.connections })
with_each s f same is = record {
  room = rw length-map is.room;
  rising = AllPairs-map Rising Rising f (λ a b less. rw (same a, same b) less) s.connections is.rising;
  connections = All-map (λ k. k.client.0 ≤ s.given) f s.connections (each (λ k. k.client.0 ≤ s.given) (λ k. (f k).client.0 ≤ s.given)
      (λ k h. let e : (f k).client.0 ≡ k.client.0 = ap (λ (c : ClientId). c.0) (same k) in omega (arith, e, h)) s.connections is.connections);
  queues = is.queues;
  commands = is.commands;
}

with_sent : (s : State) (service : Service) (client : ClientId) (frames : List (List ℕ)) → IsMachine s → IsMachine (sent s service client frames)
with_sent s service client frames is = with_each s (λ k. with_mail (is_at_ service client k) frames k) (λ k. client_with_mail (is_at_ service client k) frames k) is

with_announced : (s : State) (service : Service) (frame : Option (List ℕ)) → IsMachine s → IsMachine (announced s service frame)
with_announced s service None is = is
with_announced s service (Some frame) is = with_each s (λ k. with_mail (is_service service k.service) (frame ∷ []) k) (λ k. client_with_mail (is_service service k.service) (frame ∷ []) k) is

-- a command has its result
results : (s : State) (service : Service) (a : Command Job) (result : Outcome) → IsMachine s → IsMachine (resulting s service a result)
results s service a result is = with_queue_ s service (changed (with_result result) a (queue_at s service))
    (changed_ends (with_result result) (λ b. refl) (λ b. refl) a (queue_at s service) (is.queues service))
    (clients_changed s.given (with_result result) (λ b. refl) a (queue_at s service) (is.commands service)) is

-- the running command goes on or ends, or one begins where none runs
runs_on : (s : State) (service : Service) (f : Command Job → Command Job) → KeepsTicket f → (a : Command Job) → running_at s service ≡ Some a → IsMachine s → IsMachine (with_queue_at s service (changed f a (queue_at s service)))
runs_on s service f same a found is = with_queue_ s service (changed f a (queue_at s service))
    (changed_runs f same a (queue_at s service) found (is.queues service)) (clients_changed s.given f same a (queue_at s service) (is.commands service)) is

begins_ : (s : State) (service : Service) (f : Command Job → Command Job) → KeepsTicket f → (a : Command Job) → running_at s service ≡ None → IsMachine s → IsMachine (with_queue_at s service (changed f a (queue_at s service)))
begins_ s service f same a idle is = with_queue_ s service (changed f a (queue_at s service))
    (changed_begins f same a (queue_at s service) idle (is.queues service)) (clients_changed s.given f same a (queue_at s service) (is.commands service)) is

went_keeps : (plan : Plan) (b : Bool) (went : Went) → KeepsTicket (with_went plan b went)
went_keeps plan b more a = refl
went_keeps plan b (ended_ result) a = refl

start_keeps : (start : Start) → KeepsTicket (with_start start)
start_keeps (told result) a = refl
start_keeps (planned plan) a = refl

saying_keeps : (result : Option Outcome) → KeepsTicket (with_saying result)
saying_keeps None a = refl
saying_keeps (Some result) a = refl

hears_running : (s : State) (service : Service) (a : Command Job) → running_at s service ≡ Some a → (saying : Saying) (new : State) → Hears s service a saying new → IsMachine s → IsMachine new
hears_running s service a found saying new is h = rw (is.is) (runs_on (sent s service a.client is.events) service (with_saying saying.result) (saying_keeps saying.result) a found (with_sent s service a.client is.events h))

hears_beginning : (s : State) (service : Service) (a : Command Job) → running_at s service ≡ None → (saying : Saying) (new : State) → Hears s service a saying new → IsMachine s → IsMachine new
hears_beginning s service a idle saying new is h = rw (is.is) (begins_ (sent s service a.client is.events) service (with_saying saying.result) (saying_keeps saying.result) a idle (with_sent s service a.client is.events h))

module _ (s new : State) (h : IsMachine s) where
  works_on_plan : WorksOnPlan s new → IsMachine new
  works_on_plan is =
      let f = with_went is.left _ is.went in
      let t = with_queue_at s Cash (changed f is.command (queue_at s Cash)) in
      rw (is.is) (aside t _ refl refl refl (runs_on s Cash f (went_keeps is.left _ is.went) is.command is.runs h))

  ends_life : EndsLife s new → IsMachine new
  ends_life is = rw (is.is) (aside (announced s Cash is.frame) _ refl refl refl (with_announced s Cash is.frame h))

  answers_first : (service : Service) → AnswersFirst s service new → IsMachine new
  answers_first service is = rw (is.is) (behind is.before)
    where
      behind : (before : Option (List ℕ)) → IsMachine (with_queue_at (sent (announced s service before) service is.command.client (is.last ∷ [])) service (without (queue_at s service) (ticket_of is.command)))
      behind None = with_queue_ (sent s service is.command.client (is.last ∷ [])) service (without (queue_at s service) (ticket_of is.command))
          (queue_after_filter _ (queue_at s service) (h.queues service)) (All-filter _ (λ b. b.client.0 ≤ s.given) (queue_at s service) (h.commands service))
          (with_sent s service is.command.client (is.last ∷ []) h)
      behind (Some frame) = with_queue_ (sent (announced s service (Some frame)) service is.command.client (is.last ∷ [])) service (without (queue_at s service) (ticket_of is.command))
          (queue_after_filter _ (queue_at s service) (h.queues service)) (All-filter _ (λ b. b.client.0 ≤ s.given) (queue_at s service) (h.commands service))
          (with_sent (announced s service (Some frame)) service is.command.client (is.last ∷ []) (with_announced s service (Some frame) h))

  takes_nonce : TakesNonce s new → IsMachine new
  takes_nonce is = by_time (is_due s.now is.command) is.is
    where
      by_time : (b : Bool) → MatchBool b (new ≡ resulting s Cash is.command (plain TimeOut)) (DoesNonce s is.command new) → IsMachine new
      by_time true late = rw late (results s Cash is.command (plain TimeOut) h)
      by_time false does = rw (does.is) (aside (resulting s Cash is.command does.result) _ refl refl refl (results s Cash is.command does.result h))

  stops : (service : Service) → Stops s service new → IsMachine new
  stops service is = rw (is.is) (of_device service _ (results s service is.command _ h))
    where
      of_device : (device : Service) (t : State) → IsMachine t → IsMachine (device_stopped t device)
      of_device Publisher t talks = talks
      of_device Card t talks = aside t _ refl refl refl talks
      of_device Keys t talks = aside t _ refl refl refl talks
      of_device Cash t talks = talks

  begins_as : (service : Service) (a : Command Job) → running_at s service ≡ None → (ask : Ask) → BeginsAs ask s service a new → IsMachine new
  begins_as service a idle bad is = rw is (results s service a _ h)
  begins_as service a idle (cash ask) is =
      let t = with_queue_at s service (changed (with_start is.start) a (queue_at s service)) in
      rw (is.is) (aside t _ refl refl refl (begins_ s service (with_start is.start) (start_keeps is.start) a idle h))
  begins_as service a idle (card ask) is =
      let row = card_reader.row_of s.slot (card_event.Begin ask) in
      hears_beginning (with_slot s row.next) service a idle (card_says row.effect) new is (aside s _ refl refl refl h)
  begins_as service a idle (entry ask) is =
      let row = keyboard.row_of s.keypad (key_event.Begin ask) in
      hears_beginning (with_keypad s row.next) service a idle (keyboard_says row.effect) new is (aside s _ refl refl refl h)
  begins_as service a idle issue is = absurd is
  begins_as service a idle clear is = absurd is

  does : (case : working.Case) (service : Service) → Does case s service new → IsMachine new
  does working.order service is = works_on_plan is
  does working.expire service is = ends_life is
  does working.answer service is = answers_first service is
  does working.nonce service is = takes_nonce is
  does working.overdue service is = rw (is.is) (results s service is.command (plain TimeOut) h)
  does working.stop service is = stops service is
  does working.go_on service is = works_on_plan is
  does working.begin service is = begins_as service is.command is.alone is.command.job.ask is.begins
  does working.rest service is = rw is h

  is_heard : (service : Service) (o : Option (Command Job)) → running_at s service ≡ o → (saying : Saying) → IsHeard s service o saying new → IsMachine new
  is_heard service None none saying is = rw is h
  is_heard service (Some a) found saying is = hears_running s service a found saying new is h

  card_says_ : (effect : card_reader.Effect) → CardSays s effect new → IsMachine new
  card_says_ card_reader.removed is = rw (is.2) (with_announced s Card (Some is.0) h)
  card_says_ card_reader.nothing is = is_heard Card (running_at s Card) refl (card_says card_reader.nothing) is
  card_says_ card_reader.ask_insert is = is_heard Card (running_at s Card) refl (card_says card_reader.ask_insert) is
  card_says_ (card_reader.inserted payload) is = is_heard Card (running_at s Card) refl (card_says (card_reader.inserted payload)) is
  card_says_ (card_reader.done code payload) is = is_heard Card (running_at s Card) refl (card_says (card_reader.done code payload)) is

touches_card : (s : State) (event : CardEvent) (new : State) → TouchesCard s event new → IsMachine s → IsMachine new
touches_card s event new is h = let row = card_reader.row_of s.slot event in card_says_ (with_slot s row.next) new (aside s _ refl refl refl h) row.effect is

touches_keys : (s : State) (event : KeyEvent) (new : State) → TouchesKeys s event new → IsMachine s → IsMachine new
touches_keys s event new is h =
    let row = keyboard.row_of s.keypad event in
    is_heard (with_keypad s row.next) new (aside s _ refl refl refl h) Keys (running_at s Keys) refl (keyboard_says row.effect) is

takes_notes : (s : State) (told_ : Answer) (new : State) → TakesNotes s told_ new → IsMachine s → IsMachine new
takes_notes s told_ new (shut closed) h = h
takes_notes s told_ new (took moved next open_ takes) h = aside s _ refl refl refl h
takes_notes s told_ new (failed moved next open_ takes) h = aside s _ refl refl refl h

touches : (s : State) (touch : Touch) (told_ : Answer) (new : State) → Touches s touch told_ new → IsMachine s → IsMachine new
touches s (CardIn tracks) told_ new is h = touches_card s (card_event.Inserted tracks) new is.1 h
touches s CardTaken told_ new is h = touches_card s card_event.Removed new is.1 h
touches s CardFault told_ new is h = touches_card s card_event.Fault new is.1 h
touches s (Key key) told_ new is h = touches_keys s (key_event.Key key) new is.1 h
touches s KeyFault told_ new is h = touches_keys s key_event.Fault new is.1 h
touches s NotesTaken told_ new is h = takes_notes s told_ new is h

stopped_rests : (b : Bool) (a : Command Job) → is_running a.stage ≡ false → is_running (cond b (with_result (plain Canceled) a) a).stage ≡ false
stopped_rests true a rests = refl
stopped_rests false a rests = rests

keeps_apart : (x y : Bool) (a b : Command Job) → NotBoth a b → NotBoth (cond x (with_result (plain Canceled) a) a) (cond y (with_result (plain Canceled) b) b)
keeps_apart true y a b h = refl
keeps_apart false true a b h = and_right (is_running a.stage) false refl
keeps_apart false false a b h = h

queue_stopped : (client : ClientId) (ids : Ids) (q : List (Command Job)) → IsQueue q → IsQueue (stopped q client ids)
queue_stopped client ids q is =
    let marked = queue_canceled client ids q is in
    queue_after_map stop (λ a. stop_ticket (is_waiting a.stage && a.marked) a) (canceled q client ids)
    (AllPairs-map NotBoth NotBoth stop (λ a b h. keeps_apart (is_waiting a.stage && a.marked) (is_waiting b.stage && b.marked) a b h) (canceled q client ids) marked.running) marked

client_stopped : (b : Bool) (a : Command Job) → (cond b (with_result (plain Canceled) a) a).client ≡ a.client
client_stopped true a = refl
client_stopped false a = refl

clients_stopped : (given : ℕ) (client : ClientId) (ids : Ids) (q : List (Command Job)) → All (λ a. a.client.0 ≤ given) q → All (λ a. a.client.0 ≤ given) (stopped q client ids)
clients_stopped given client ids q all =
    All-map (λ a. a.client.0 ≤ given) stop (canceled q client ids) (each (λ a. a.client.0 ≤ given) (λ a. (stop a).client.0 ≤ given)
    (λ a h. let e : (stop a).client.0 ≡ a.client.0 = ap (λ (c : ClientId). c.0) (client_stopped (is_waiting a.stage && a.marked) a) in omega (arith, e, h))
    (canceled q client ids) (All-map (λ a. a.client.0 ≤ given) _ q all))

-- what a command that is done at once leaves of the queue
pub record IsKept (given : ℕ) (q : List (Command Job)) : Type 0 where
  pub is_queue : IsQueue q
  pub clients : All (λ a. a.client.0 ≤ given) q

kept_if : (given : ℕ) (client : ClientId) (ids : Ids) (q : List (Command Job)) (b : Bool) → IsKept given q
    → IsKept given (cond {A = AtOnce} b (record { result = success nothing; queue = stopped q client ids }) (record { result = error NoMatchingRequestIds; queue = q })).queue
kept_if given client ids q true is = record { is_queue = queue_stopped client ids q is.is_queue; clients = clients_stopped given client ids q is.clients }
kept_if given client ids q false is = is

kept_canceling : (given : ℕ) (client : ClientId) (q : List (Command Job)) (ids : Result (Option (List ℕ)) Shape) → IsKept given q → IsKept given (canceling q client ids).queue
kept_canceling given client q (Err shape) is = is
kept_canceling given client q (Ok ids) is = kept_if given client (ids_of ids) q (list_any (is_named client (ids_of ids)) q) is

kept_at_once : (given : ℕ) (s : State) (k : Connection) (c : envelope.Command) → IsKept given (queue_at s k.service) → IsKept given (done_at_once s k c).queue
kept_at_once given s k c is = by_command s k c.payload (λ did. IsKept given did.queue) (immediate_of k.service c.name)
    (λ cancels. kept_canceling given k.client (queue_at s k.service) (request_ids c.payload) is) is

-- a command that is neither of a wrong id nor one too many
offered_fault : (q : List (Command Job)) (client : ClientId) (id : ℕ) → is_wrong_id (pending_in client q) id ≡ false → is_crowded q client ≡ false → offer_fault q client id ≡ None
offered_fault q client id right room =
    let free : list_any (is_at record { client = client; id = id }) q ≡ false = sym (is_pending_there client id q) ∙ (or_parts (not (is_request_id id)) (is_pending (pending_in client q) id) right).1 in
    let few = or_parts (nat_le 32 (count_by (is_of client) q)) (nat_le 256 (length q)) room in
    rw (free, few.0, few.1) refl

module _ (s : State) (k : Connection) (within : k.client.0 ≤ s.given) (h : IsMachine s) where
  abbrev q : List (Command Job)
  q = queue_at s k.service

  takes_on : (c : envelope.Command) → is_wrong_id (pending_in k.client q) c.id ≡ false → (known : Option Known) (new : State) → TakesOn s k c known new → IsMachine new
  takes_on c right None new is =
      let kept = kept_at_once s.given s k c (record { is_queue = h.queues k.service; clients = h.commands k.service }) in
      rw (is.is) (with_queue_ (sent s k.service k.client (is.reply ∷ is.last ∷ [])) k.service (done_at_once s k c).queue kept.is_queue kept.clients
      (with_sent s k.service k.client (is.reply ∷ is.last ∷ []) h))
  takes_on c right (Some known) new is = of_room (is_crowded q k.client) refl is
    where
      of_room : (b : Bool) → is_crowded q k.client ≡ b → MatchBool b (Refuses s k (Some c.id) (Some c.name) TooManyRequests new) (Accepts s k known c new) → IsMachine new
      of_room true full_ is = rw (is.is) (with_sent s k.service k.client (is.reply ∷ []) h)
      of_room false room is =
          let a : Command Job = offered k.client c.id (line_of known) c.timeout s.now (job_of c.name is.ask) in
          rw (is.is) (with_queue_ (sent s k.service k.client (is.reply ∷ [])) k.service (q ++ a ∷ [])
          (queue_after_push q a (offered_fault q k.client c.id right room) refl (h.queues k.service))
          (All-push (λ b. b.client.0 ≤ s.given) q a (h.commands k.service) within)
          (with_sent s k.service k.client (is.reply ∷ []) h))

  takes : (says : Result envelope.Command Refuse) (new : State) → TakesText s k says new → IsMachine new
  takes (Err refuse) new is = rw (is.is) (with_sent s k.service k.client (is.reply ∷ []) h)
  takes (Ok c) new is = of_id (is_wrong_id (pending_in k.client q) c.id) refl is
    where
      of_id : (b : Bool) → is_wrong_id (pending_in k.client q) c.id ≡ b
          → MatchBool b (Refuses s k (Some c.id) (Some c.name) InvalidRequestId new) (TakesOn s k c (known_of k.service c.name) new) → IsMachine new
      of_id true wrong is = rw (is.is) (with_sent s k.service k.client (is.reply ∷ []) h)
      of_id false right is = takes_on c right (known_of k.service c.name) new is

open_within : (s : State) (pass : Pass) (k : Connection) (b : Bool) → cond b (connection_at s pass.client) None ≡ Some k → IsMachine s → k.client.0 ≤ s.given
open_within s pass k true found h = found_all (λ j. j.client.0 ≤ s.given) (is_client pass.client) s.connections k found h.connections
open_within s pass k false found h = absurd (none-some k found)

posts : (old : State) (pass : Pass) (text : List ℕ) (now : Moment) (new : State) → Posts old pass text now new → IsMachine old → IsMachine new
posts old pass text now new is h = go (connection_of old pass) refl is
  where
    go : (o : Option Connection) → connection_of old pass ≡ o → MatchOption o (new ≡ old) (λ k. TakesText (at_moment old now) k (command_in text) new) → IsMachine new
    go None none is = rw is h
    go (Some k) found is = takes (at_moment old now) k (open_within old pass k (old.boot == pass.boot) found h) (aside old _ refl refl refl h) (command_in text) new is

emptied : (b : Bool) (k : Connection) → (cond b (record k { waiting = [] }) k).client ≡ k.client
emptied true k = refl
emptied false k = refl

hands : (old : State) (pass : Pass) (frames : List (List ℕ)) (new : State) → HandsOver old pass frames new → IsMachine old → IsMachine new
hands old pass frames new is h = go (connection_of old pass) is
  where
    go : (o : Option Connection) → MatchOption o ((frames ≡ []) × (new ≡ old)) (λ k. (frames ≡ k.waiting) × (new ≡ record old { connections = map (without_mail k.client) old.connections })) → IsMachine new
    go None is = rw (is.1) h
    go (Some k) is = rw (is.1) (with_each old (without_mail k.client) (λ j. emptied (is_client k.client j) j) h)

leaves_at : (old : State) (k : Connection) → IsMachine old → IsMachine (left old k)
leaves_at old k h =
    let q : List (Command Job) = without_client (queue_at old k.service) k.client in
    let stays = λ (j : Connection). not (is_client k.client j) in
    let t = with_queue_ old k.service q (queue_without_client k.client (queue_at old k.service) (h.queues k.service))
    (All-map (λ a. a.client.0 ≤ old.given) _ _ (All-filter _ (λ a. a.client.0 ≤ old.given) (queue_at old k.service) (h.commands k.service))) h in
    record {
      room = omega (arith, h.room, length-filter stays old.connections, count_by-le-length stays old.connections);
      rising = AllPairs-filter Rising stays old.connections h.rising;
      connections = All-filter stays (λ j. j.client.0 ≤ old.given) old.connections h.connections;
      queues = t.queues;
      commands = t.commands;
    }

leaves : (old : State) (pass : Pass) (new : State) → DropsClient old pass new → IsMachine old → IsMachine new
leaves old pass new is h = go (connection_of old pass) is
  where
    go : (o : Option Connection) → MatchOption o (new ≡ old) (λ k. new ≡ left old k) → IsMachine new
    go None is = rw is h
    go (Some k) is = rw is (leaves_at old k h)

joins : (old : State) (service : Service) (pass : Pass) (new : State) → Joins old service pass new → IsMachine old → IsMachine new
joins old service pass new is h =
    let k : Connection = record { client = pass.client; service = service; waiting = [] } in
    rw (is.is) record {
      room = rw length-append (omega (arith, is.room));
      rising = all_pairs_push Rising old.connections k h.rising (λ j d within. let e = is.client in let low = h.connections j d within in omega (arith, e, low));
      connections = All-push (λ j. j.client.0 ≤ old.given + 1) old.connections k
          (each (λ j. j.client.0 ≤ old.given) (λ j. j.client.0 ≤ old.given + 1) (λ j low. omega (arith, low)) old.connections h.connections) (let e = is.client in omega (arith, e));
      queues = h.queues;
      commands = λ b. each (λ a. a.client.0 ≤ old.given) (λ a. a.client.0 ≤ old.given + 1) (λ a low. omega (arith, low)) (queue_at old b) (h.commands b);
    }

no_commands_ : IsQueue {J = Job} []
no_commands_ = record { ids = λ i j d lt within. absurd (omega arith); running = λ i j d lt within. absurd (omega arith); service = omega arith; client = λ c. omega arith }

pub bare_machine : (seen : Seen) (life boot : ℕ) → IsMachine (bare seen life boot)
bare_machine seen life boot = record { room = omega arith; rising = λ i j d lt within. absurd (omega arith); connections = All-nil _; queues = queues; commands = commands }
  where
    queues : (service : Service) → IsQueue (queue_at (bare seen life boot) service)
    queues Publisher = no_commands_
    queues Card = no_commands_
    queues Keys = no_commands_
    queues Cash = no_commands_

    commands : (service : Service) → All (λ a. a.client.0 ≤ 0) (queue_at (bare seen life boot) service)
    commands Publisher = All-nil _
    commands Card = All-nil _
    commands Keys = All-nil _
    commands Cash = All-nil _

kept_by : (old : State) (event : Event) (told_ : Answer) (new : State) → Happens old event told_ new → IsMachine old → IsMachine new
kept_by old (join service) (joined pass) new is h = joins old service pass new is h
kept_by old (join service) full new is h = rw (is.1) h
kept_by old (post pass text now) done new is h = posts old pass text now new is h
kept_by old (touch it) told_ new is h = touches old it told_ new is h
kept_by old (work service now) told_ new is h = does (at_moment old now) new (aside old _ refl refl refl h) (case_of (at_moment old now) service) service is.1
kept_by old (outbox pass) (handed frames) new is h = hands old pass frames new is h
kept_by old (leave pass) done new is h = leaves old pass new is h
kept_by old restart restarted new is h = rw (is.is) (bare_machine is.next old.life (length is.next.guard.records))
kept_by old restart unrestarted new is h = rw (is.is) (bare_machine is.next old.life 0)
kept_by old end_ ended new is h = rw is (bare_machine old.seen old.life 0)
kept_by old finish ended new is h = rw (is.is) (bare_machine is.next old.life 0)
kept_by old finish unsettled new is h = rw (is.is) (bare_machine is.next old.life 0)
kept_by old event told_ new is h = absurd is

pub kept : (old new : State) (event : Event) (told_ : Answer) → IsMachine old → Step old event told_ new → IsMachine new
kept old new event told_ h (happens up is) = kept_by old event told_ new is h
kept old new event told_ h (wanting is_memory wants) = let u = unmoved old new event wants in rw (u.is) (aside old _ refl refl refl h)
