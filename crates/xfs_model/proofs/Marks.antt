-- A command is marked for a reason.
use Rattle.std.proofs.Common.{◌≡◌, ◌⊎◌, ℕ, zero, suc, ◌<◌, ◌&&◌, ◌||◌, not, Bool, true, false, cond, MatchBool, MatchOption, List, [], ◌∷◌, ◌++◌, Option, None, Some, Result, Ok, Err, length, get_or, map, filter, All, subst, refl, sym, ◌∙◌, inl, inr, arith}
use Rattle.std.specs.List.{list_any}
use Rattle.std.proofs.lemmas.Bool.{cases_Bool, and_parts, eqb-true, false≢true}
use Rattle.std.proofs.lemmas.List.Elements.{All-filter, All-map, All-nil, All-push}
use Rattle.xfs_base.specs.declared.moment.Moment.{Moment}
use Rattle.xfs_base.specs.declared.moment.Service.{Service}
use Rattle.xfs_base.specs.declared.moment.Service.TheVariants.{Publisher, Card, Keys, Cash}
use Rattle.xfs_envelope.specs.declared.code.Code.TheVariants.{Canceled, TimeOut}
use Rattle.xfs_queue.specs.declared.command.Command.{Command}
use Rattle.xfs_queue.specs.Commands.{ticket_of, is_at, is_due}
use Rattle.xfs_card.specs.Table as card_reader
use Rattle.xfs_card.specs.declared.state.CardEvent.{CardEvent}
use Rattle.xfs_card.specs.declared.state.CardEvent.TheVariants as card_event
use Rattle.xfs_common.specs.Cancel.{request_ids}
use Rattle.xfs_common.specs.Payloads.{nothing}
use Rattle.xfs_common.specs.declared.error.ErrorCode.TheVariants.{NoMatchingRequestIds}
use Rattle.xfs_conversation.specs.Pending.{is_wrong_id}
use Rattle.xfs_dispenser.specs.Seen.{Seen}
use Rattle.xfs_dispenser.specs.declared.plan.Plan.{Plan}
use Rattle.xfs_envelope.specs.Commands.{command_in}
use Rattle.xfs_envelope.specs.Commands as envelope
use Rattle.xfs_envelope.specs.declared.code.Status.TheVariants.{InvalidRequestId, TooManyRequests}
use Rattle.xfs_envelope.specs.declared.command.Refuse.{Refuse}
use Rattle.xfs_json.specs.declared.members.Shape.{Shape}
use Rattle.xfs_keyboard.specs.Keyboard as keyboard
use Rattle.xfs_keyboard.specs.declared.state.KeyEvent.{KeyEvent}
use Rattle.xfs_keyboard.specs.declared.state.KeyEvent.TheVariants as key_event
use Rattle.xfs_mech.specs.declared.touch.Touch.{Touch}
use Rattle.xfs_mech.specs.declared.touch.Touch.TheVariants.{CardIn, CardTaken, CardFault, Key, KeyFault, NotesTaken}
use Rattle.xfs_queue.specs.declared.command.Ids.{Ids}
use Rattle.xfs_queue.specs.Commands.{is_of, is_ready, is_running, is_waiting}
use Rattle.xfs_queue.specs.Queue.{canceled, is_named, mark, offered, without, without_client, is_crowded}
use Rattle.xfs_model.specs.Cases.{AnswersFirst, BeginsAs, Does, DoesNonce, Stops, TakesNonce, WorksOnPlan, resulting, with_start, with_went}
use Rattle.xfs_common.specs.Commands.{immediate_of}
use Rattle.xfs_common.specs.declared.command.Immediate.TheVariants.{Cancel}
use Rattle.xfs_model.specs.declared.known.Known.{Known}
use Rattle.xfs_model.specs.Commands.{known_of, line_of}
use Rattle.xfs_model.specs.Connections.{announced, connection_of, is_service, left, sent, with_queue_at, without_mail}
use Rattle.xfs_model.specs.Devices.{Hears, Saying, card_says, device_stopped, keyboard_says, with_keypad, with_saying, with_slot}
use Rattle.xfs_model.specs.Events.{Answer, Event, join, post, touch, work, outbox, leave, restart, end_, finish, joined, full, done, handed, restarted, unrestarted, ended, unsettled}
use Rattle.xfs_model.specs.Immediate.{AtOnce, canceling, done_at_once, ids_of, stop, stopped}
use Rattle.xfs_model.specs.Pendings.{pending_in}
use Rattle.xfs_model.specs.Posts.{Accepts, Refuses, TakesText, TakesOn, job_of}
use Rattle.xfs_model.specs.Results.{changed, error, plain, success, with_result}
use Rattle.xfs_model.specs.State.{Ask, issue, clear, cash, card, entry, bad, Connection, Job, Outcome, Pass, State, bare, queue_at}
use Rattle.xfs_model.specs.Step.{Happens, HandsOver, DropsClient, Posts, Step, at_moment, happens, wanting}
use Rattle.xfs_model.specs.Touches.{CardSays, IsHeard, TakesNotes, Touches, TouchesCard, TouchesKeys, failed, running_at, shut, took}
use Rattle.xfs_model.specs.Work as working
use Rattle.xfs_model.specs.Work.{case_of}
use Rattle.xfs_model.proofs.Queues.{itself, queue_here, queue_same, queue_there, same_service}
use Rattle.xfs_dispenser.specs.Answers.{Start, told, planned, Went, more, done as over}
use Rattle.xfs_model.specs.Causes.{IsCancelOf, IsMarked, IsOwnPass, MarksHaveCauses, before, canceled_by, left_by, was_marked, was_pending}
use Rattle.xfs_model.proofs.Changes.{each, at_itself}
use Rattle.xfs_model.proofs.AtOnce.{by_command}
use Rattle.xfs_model.proofs.Wanting.{unmoved}
use Rattle.xfs_queue.specs.declared.command.Ticket.{Ticket}
use Rattle.xfs_queue.specs.Commands.{names}

-- where one passes, one does
any_at : {X : Type 0} (p : X → Bool) (xs : List X) (k : ℕ) (d : X) → k < length xs → p (get_or xs k d) ≡ true → list_any p xs ≡ true
any_at p [] k d within y = absurd (omega arith)
any_at p (x ∷ xs) zero d within y = rw y refl
any_at p (x ∷ xs) (suc k) d within y = elim (cases_Bool (p x)) [
  | inl here ↦ rw here refl
  | inr there ↦ rw there (any_at p xs k d (omega (arith, within)) y)
]

-- each command of a list is in it
pending_same : (q : List (Command Job)) → All (λ (a : Command Job). list_any (is_at (ticket_of a)) q ≡ true) q
pending_same q k d within = any_at (is_at (ticket_of (get_or q k d))) q k d within (at_itself (ticket_of (get_or q k d)))

-- the command of this ticket is marked in a list
abbrev has_mark : List (Command Job) → Ticket → Bool
has_mark q t = list_any (λ a. is_at t a && a.marked) q

-- each marked command of a list was marked in another
abbrev Marked : List (Command Job) → List (Command Job) → Type 0
Marked q r = All (λ b. b.marked ≡ true → has_mark q (ticket_of b) ≡ true) r

marked_same : (q : List (Command Job)) → Marked q q
marked_same q k d within m =
    let here : (is_at (ticket_of (get_or q k d)) (get_or q k d) && (get_or q k d).marked) ≡ true = rw (at_itself (ticket_of (get_or q k d)), m) refl in
    any_at (λ a. is_at (ticket_of (get_or q k d)) a && a.marked) q k d within here

-- a change that keeps the ticket and the mark
pub record KeepsMark (f : Command Job → Command Job) : Type 0 where
  pub ticket : (b : Command Job) → ticket_of (f b) ≡ ticket_of b
  pub mark : (b : Command Job) → (f b).marked ≡ b.marked

marked_map : (f : Command Job → Command Job) → KeepsMark f → (q : List (Command Job)) → Marked q (map f q)
marked_map f keeps q = All-map (λ b. b.marked ≡ true → has_mark q (ticket_of b) ≡ true) f q (λ k d within m.
    subst (λ t. has_mark q t ≡ true) (sym (keeps.ticket (get_or q k d))) (marked_same q k d within (sym (keeps.mark (get_or q k d)) ∙ m)))

marked_filter : (keep : Command Job → Bool) (q : List (Command Job)) → Marked q (filter keep q)
marked_filter keep q = All-filter keep (λ b. b.marked ≡ true → has_mark q (ticket_of b) ≡ true) q (marked_same q)

keeps_if : (p : Command Job → Bool) (f : Command Job → Command Job) → KeepsMark f → KeepsMark (λ b. cond (p b) (f b) b)
keeps_if p f keeps = record { ticket = λ b. ticket_if (p b) b; mark = λ b. mark_if (p b) b }
  where
    ticket_if : (c : Bool) (b : Command Job) → ticket_of (cond c (f b) b) ≡ ticket_of b
    ticket_if true b = keeps.ticket b
    ticket_if false b = refl

    mark_if : (c : Bool) (b : Command Job) → (cond c (f b) b).marked ≡ b.marked
    mark_if true b = keeps.mark b
    mark_if false b = refl

marked_changed : (f : Command Job → Command Job) → KeepsMark f → (a : Command Job) (q : List (Command Job)) → Marked q (changed f a q)
marked_changed f keeps a q = marked_map _ (keeps_if (is_at (ticket_of a)) f keeps) q

went_marks : (plan : Plan) (b : Bool) (went : Went) → KeepsMark (with_went plan b went)
went_marks plan b more = record { ticket = λ c. refl; mark = λ c. refl }
went_marks plan b (over result) = record { ticket = λ c. refl; mark = λ c. refl }

start_marks : (start : Start) → KeepsMark (with_start start)
start_marks (told result) = record { ticket = λ c. refl; mark = λ c. refl }
start_marks (planned plan) = record { ticket = λ c. refl; mark = λ c. refl }

saying_marks : (result : Option Outcome) → KeepsMark (with_saying result)
saying_marks None = record { ticket = λ c. refl; mark = λ c. refl }
saying_marks (Some result) = record { ticket = λ c. refl; mark = λ c. refl }

result_marks : (result : Outcome) → KeepsMark (with_result result)
result_marks result = record { ticket = λ c. refl; mark = λ c. refl }

-- each service's marked commands were marked before
abbrev Same : State → State → Type 0
Same s t = (service : Service) → Marked (queue_at s service) (queue_at t service)

same_state : (s : State) → Same s s
same_state s service = marked_same (queue_at s service)

with_queue_ : (s : State) (service : Service) (q : List (Command Job)) → Marked (queue_at s service) q → Same s (with_queue_at s service q)
with_queue_ s service q marked = λ b. elim (cases_Bool (is_service service b)) [
  | inl y ↦ rw (queue_here s.queues service b q y, queue_same s.queues service b y) marked
  | inr n ↦ rw (queue_there s.queues service b q n) (marked_same (queue_at s b))
]

change : (s : State) (service : Service) (f : Command Job → Command Job) → KeepsMark f → (a : Command Job) → Same s (with_queue_at s service (changed f a (queue_at s service)))
change s service f keeps a = with_queue_ s service (changed f a (queue_at s service)) (marked_changed f keeps a (queue_at s service))

announced_marks : (s : State) (service : Service) (frame : Option (List ℕ)) → Same s (announced s service frame)
announced_marks s service None = same_state s
announced_marks s service (Some frame) = same_state s

module _ (s new : State) where
  hears : (service : Service) (a : Command Job) (saying : Saying) → Hears s service a saying new → Same s new
  hears service a saying is = rw (is.is) (change s service (with_saying saying.result) (saying_marks saying.result) a)

  takes_nonce : TakesNonce s new → Same s new
  takes_nonce is = by_time (is_due s.now is.command) is.is
    where
      by_time : (b : Bool) → MatchBool b (new ≡ resulting s Cash is.command (plain TimeOut)) (DoesNonce s is.command new) → Same s new
      by_time true late = rw late (change s Cash (with_result (plain TimeOut)) (result_marks (plain TimeOut)) is.command)
      by_time false does = rw (does.is) (change s Cash (with_result does.result) (result_marks does.result) is.command)

  works_on_plan : WorksOnPlan s new → Same s new
  works_on_plan is = rw (is.is) (change s Cash _ (went_marks is.left _ is.went) is.command)

  stops : (service : Service) → Stops s service new → Same s new
  stops service is = rw (is.is) (of_device service _ (change s service (with_result _) (result_marks _) is.command))
    where
      of_device : (device : Service) (t : State) → Same s t → Same s (device_stopped t device)
      of_device Publisher t talks = talks
      of_device Card t talks = talks
      of_device Keys t talks = talks
      of_device Cash t talks = talks

  answers_first : (service : Service) → AnswersFirst s service new → Same s new
  answers_first service is = rw (is.is) (behind is.before)
    where
      behind : (frame : Option (List ℕ)) → Same s (with_queue_at (sent (announced s service frame) service is.command.client (is.last ∷ [])) service (without (queue_at s service) (ticket_of is.command)))
      behind None = with_queue_ s service (without (queue_at s service) (ticket_of is.command)) (marked_filter (λ a. not (is_at (ticket_of is.command) a)) (queue_at s service))
      behind (Some frame) = with_queue_ s service (without (queue_at s service) (ticket_of is.command)) (marked_filter (λ a. not (is_at (ticket_of is.command) a)) (queue_at s service))

  begins_as : (service : Service) (a : Command Job) (ask : Ask) → BeginsAs ask s service a new → Same s new
  begins_as service a bad is = rw is (change s service (with_result _) (result_marks _) a)
  begins_as service a (cash ask) is = rw (is.is) (change s service (with_start is.start) (start_marks is.start) a)
  begins_as service a (card ask) is = rw (is.is) (change s service (with_saying (card_says (card_reader.row_of s.slot (card_event.Begin ask)).effect).result) (saying_marks (card_says (card_reader.row_of s.slot (card_event.Begin ask)).effect).result) a)
  begins_as service a (entry ask) is = rw (is.is) (change s service (with_saying (keyboard_says (keyboard.row_of s.keypad (key_event.Begin ask)).effect).result) (saying_marks (keyboard_says (keyboard.row_of s.keypad (key_event.Begin ask)).effect).result) a)
  begins_as service a issue is = absurd is
  begins_as service a clear is = absurd is

  does : (case : working.Case) (service : Service) → Does case s service new → Same s new
  does working.order service is = works_on_plan is
  does working.expire service is = rw (is.is) (announced_marks s Cash is.frame)
  does working.answer service is = answers_first service is
  does working.nonce service is = takes_nonce is
  does working.overdue service is = rw (is.is) (change s service (with_result (plain TimeOut)) (result_marks (plain TimeOut)) is.command)
  does working.stop service is = stops service is
  does working.go_on service is = works_on_plan is
  does working.begin service is = begins_as service is.command is.command.job.ask is.begins
  does working.rest service is = rw is (same_state s)

  is_heard : (service : Service) (o : Option (Command Job)) (saying : Saying) → IsHeard s service o saying new → Same s new
  is_heard service None saying is = rw is (same_state s)
  is_heard service (Some a) saying is = hears service a saying is

  card_says_ : (effect : card_reader.Effect) → CardSays s effect new → Same s new
  card_says_ card_reader.removed is = rw (is.2) (same_state s)
  card_says_ card_reader.nothing is = is_heard Card (running_at s Card) (card_says card_reader.nothing) is
  card_says_ card_reader.ask_insert is = is_heard Card (running_at s Card) (card_says card_reader.ask_insert) is
  card_says_ (card_reader.inserted payload) is = is_heard Card (running_at s Card) (card_says (card_reader.inserted payload)) is
  card_says_ (card_reader.done code payload) is = is_heard Card (running_at s Card) (card_says (card_reader.done code payload)) is

touches_card : (s : State) (event : CardEvent) (new : State) → TouchesCard s event new → Same s new
touches_card s event new is = card_says_ (with_slot s (card_reader.row_of s.slot event).next) new (card_reader.row_of s.slot event).effect is

touches_keys : (s : State) (event : KeyEvent) (new : State) → TouchesKeys s event new → Same s new
touches_keys s event new is = is_heard (with_keypad s (keyboard.row_of s.keypad event).next) new Keys (running_at s Keys) (keyboard_says (keyboard.row_of s.keypad event).effect) is

takes_notes : (s : State) (told_ : Answer) (new : State) → TakesNotes s told_ new → Same s new
takes_notes s told_ new (shut closed) = same_state s
takes_notes s told_ new (took moved next open_ takes) = same_state s
takes_notes s told_ new (failed moved next open_ takes) = same_state s

touches : (s : State) (touch : Touch) (told_ : Answer) (new : State) → Touches s touch told_ new → Same s new
touches s (CardIn tracks) told_ new is = touches_card s (card_event.Inserted tracks) new is.1
touches s CardTaken told_ new is = touches_card s card_event.Removed new is.1
touches s CardFault told_ new is = touches_card s card_event.Fault new is.1
touches s (Key key) told_ new is = touches_keys s (key_event.Key key) new is.1
touches s KeyFault told_ new is = touches_keys s key_event.Fault new is.1
touches s NotesTaken told_ new is = takes_notes s told_ new is

-- what was marked before is marked for that reason
from_before : (old : State) (event : Event) (new : State) → Same old new → MarksHaveCauses old event new
from_before old event new same = λ service. each (λ b. b.marked ≡ true → has_mark (queue_at old service) (ticket_of b) ≡ true) (λ b. b.marked ≡ true → IsMarked old event service b) (λ b was m. before (was m)) (queue_at new service) (same service)

-- a command of the same ticket is marked for the same reason
same_reason : (old : State) (event : Event) (service : Service) (a b : Command Job) → ticket_of b ≡ ticket_of a → IsMarked old event service a → IsMarked old event service b
same_reason old event service a b same (before was) = before (subst (λ t. was_marked old service t ≡ true) (sym same) was)
same_reason old event service a b same (canceled_by pass text now is mine there cancels) =
    canceled_by pass text now is (subst (λ (t : Ticket). IsOwnPass old pass service t.client) (sym same) mine) (subst (λ (t : Ticket). was_pending old service t ≡ true) (sym same) there)
    (subst (λ (t : Ticket). IsCancelOf service text t.id) (sym same) cancels)
same_reason old event service a b same (left_by pass is mine there) =
    left_by pass is (subst (λ (t : Ticket). IsOwnPass old pass service t.client) (sym same) mine) (subst (λ (t : Ticket). was_pending old service t ≡ true) (sym same) there)

pub stop_ticket : (b : Bool) (a : Command Job) → ticket_of (cond b (with_result (plain Canceled) a) a) ≡ ticket_of a
stop_ticket true a = refl
stop_ticket false a = refl

stop_mark : (b : Bool) (a : Command Job) → (cond b (with_result (plain Canceled) a) a).marked ≡ a.marked
stop_mark true a = refl
stop_mark false a = refl

pub either : (x y : Bool) → (x || y) ≡ true → (x ≡ true) ⊎ (y ≡ true)
either true y h = inl refl
either false y h = inr h

-- a text that an open connection posts
module _ (old : State) (pass : Pass) (text : List ℕ) (now : Moment) (k : Connection) (found : connection_of old pass ≡ Some k) (new : State) where
  abbrev s : State
  s = at_moment old now

  abbrev event : Event
  event = post pass text now

  unmarked : Same old new → MarksHaveCauses old event new
  unmarked same = from_before old event new same

  with_marks : (q : List (Command Job)) → All (λ b. b.marked ≡ true → IsMarked old event k.service b) q → (frames : List (List ℕ))
      → MarksHaveCauses old event (with_queue_at (sent s k.service k.client frames) k.service q)
  with_marks q all frames = λ b. elim (cases_Bool (is_service k.service b)) [
    | inl y ↦ rw (same_service k.service b y, queue_here s.queues k.service k.service q (itself k.service)) all
    | inr n ↦ rw (queue_there s.queues k.service b q n) (each (λ a. a.marked ≡ true → has_mark (queue_at old b) (ticket_of a) ≡ true) (λ a. a.marked ≡ true → IsMarked old event b a) (λ a was m. before (was m)) (queue_at old b) (marked_same (queue_at old b)))
  ]

  stays : All (λ b. b.marked ≡ true → IsMarked old event k.service b) (queue_at old k.service)
  stays = each (λ a. a.marked ≡ true → has_mark (queue_at old k.service) (ticket_of a) ≡ true) (λ a. a.marked ≡ true → IsMarked old event k.service a) (λ a was m. before (was m)) (queue_at old k.service) (marked_same (queue_at old k.service))

  -- the commands that a Cancel names
  canceled_marks : (ids : Ids) → ((id : ℕ) → names ids id ≡ true → IsCancelOf k.service text id) → All (λ b. b.marked ≡ true → IsMarked old event k.service b) (stopped (queue_at old k.service) k.client ids)
  canceled_marks ids cancels = All-map (λ b. b.marked ≡ true → IsMarked old event k.service b) stop (canceled (queue_at old k.service) k.client ids)
      (each (λ a. a.marked ≡ true → IsMarked old event k.service a) (λ a. (stop a).marked ≡ true → IsMarked old event k.service (stop a))
      (λ a why m. same_reason old event k.service a (stop a) (stop_ticket (is_waiting a.stage && a.marked) a) (why (sym (stop_mark (is_waiting a.stage && a.marked) a) ∙ m)))
      (canceled (queue_at old k.service) k.client ids)
      (All-map (λ b. b.marked ≡ true → IsMarked old event k.service b) (λ a. mark (is_named k.client ids a && not (is_ready a.stage)) a) (queue_at old k.service)
      (λ i d within m. elim (either (get_or (queue_at old k.service) i d).marked _ m) [
        | inl was ↦ before (marked_same (queue_at old k.service) i d within was)
        | inr named ↦
            let a : Command Job = get_or (queue_at old k.service) i d in
            let is : is_named k.client ids a ≡ true = (and_parts (is_named k.client ids a) (not (is_ready a.stage)) named).0 in
            let parts = and_parts (is_of k.client a) (names ids a.id) is in
            canceled_by pass text now refl (record { connection = k; is_open = found; at_service = refl; its = sym (eqb-true a.client.0 k.client.0 parts.0) }) (pending_same (queue_at old k.service) i d within) (cancels a.id parts.1)
      ])))

  at_once_marks : (c : envelope.Command) → command_in text ≡ Ok c → All (λ b. b.marked ≡ true → IsMarked old event k.service b) (done_at_once s k c).queue
  at_once_marks c reads = by_command s k c.payload (λ did. All (λ b. b.marked ≡ true → IsMarked old event k.service b) did.queue) (immediate_of k.service c.name) (of_ids (request_ids c.payload) refl) stays
    where
      if_named : (ids : Option (List ℕ)) → request_ids c.payload ≡ Ok ids → immediate_of k.service c.name ≡ Some Cancel → (b : Bool)
          → All (λ b. b.marked ≡ true → IsMarked old event k.service b) (cond {A = AtOnce} b (record { result = success nothing; queue = stopped (queue_at old k.service) k.client (ids_of ids) }) (record { result = error NoMatchingRequestIds; queue = queue_at old k.service })).queue
      if_named ids asks name true = canceled_marks (ids_of ids) (λ id its. record { command = c; ids = ids; reads = reads; name = name; asks = asks; names_it = its })
      if_named ids asks name false = stays

      of_ids : (ids : Result (Option (List ℕ)) Shape) → request_ids c.payload ≡ ids → immediate_of k.service c.name ≡ Some Cancel → All (λ b. b.marked ≡ true → IsMarked old event k.service b) (canceling (queue_at old k.service) k.client ids).queue
      of_ids (Err shape) asks name = stays
      of_ids (Ok ids) asks name = if_named ids asks name (list_any (is_named k.client (ids_of ids)) (queue_at old k.service))

  takes : (says : Result envelope.Command Refuse) → command_in text ≡ says → TakesText s k says new → MarksHaveCauses old event new
  takes (Err refuse) reads is = unmarked (rw (is.is) (same_state old))
  takes (Ok c) reads is = of_id (is_wrong_id (pending_in k.client (queue_at s k.service)) c.id) is
    where
      of_room : (known : Known) (b : Bool) → MatchBool b (Refuses s k (Some c.id) (Some c.name) TooManyRequests new) (Accepts s k known c new) → MarksHaveCauses old event new
      of_room known true is = unmarked (rw (is.is) (same_state old))
      of_room known false is =
          let a : Command Job = offered k.client c.id (line_of known) c.timeout s.now (job_of c.name is.ask) in
          rw (is.is) (with_marks (queue_at old k.service ++ a ∷ []) (All-push (λ b. b.marked ≡ true → IsMarked old event k.service b) (queue_at old k.service) a stays (λ m. absurd (false≢true m))) (is.reply ∷ []))

      of_known : (known : Option Known) → TakesOn s k c known new → MarksHaveCauses old event new
      of_known None is = rw (is.is) (with_marks (done_at_once s k c).queue (at_once_marks c reads) (is.reply ∷ is.last ∷ []))
      of_known (Some known) is = of_room known (is_crowded (queue_at s k.service) k.client) is

      of_id : (b : Bool) → MatchBool b (Refuses s k (Some c.id) (Some c.name) InvalidRequestId new) (TakesOn s k c (known_of k.service c.name) new) → MarksHaveCauses old event new
      of_id true is = unmarked (rw (is.is) (same_state old))
      of_id false is = of_known (known_of k.service c.name) is

posts : (old : State) (pass : Pass) (text : List ℕ) (now : Moment) (new : State) → Posts old pass text now new → MarksHaveCauses old (post pass text now) new
posts old pass text now new is = go (connection_of old pass) refl is
  where
    go : (o : Option Connection) → connection_of old pass ≡ o → MatchOption o (new ≡ old) (λ k. TakesText (at_moment old now) k (command_in text) new) → MarksHaveCauses old (post pass text now) new
    go None none is = from_before old (post pass text now) new (rw is (same_state old))
    go (Some k) found is = takes old pass text now k found new (command_in text) refl is

hands : (old : State) (pass : Pass) (frames : List (List ℕ)) (new : State) → HandsOver old pass frames new → Same old new
hands old pass frames new is = go (connection_of old pass) is
  where
    go : (o : Option Connection) → MatchOption o ((frames ≡ []) × (new ≡ old)) (λ k. (frames ≡ k.waiting) × (new ≡ record old { connections = map (without_mail k.client) old.connections })) → Same old new
    go None is = rw (is.1) (same_state old)
    go (Some k) is = rw (is.1) (same_state old)

leaves : (old : State) (pass : Pass) (new : State) → DropsClient old pass new → MarksHaveCauses old (leave pass) new
leaves old pass new is = go (connection_of old pass) refl is
  where
    at_place : (k : Connection) → connection_of old pass ≡ Some k → All (λ b. b.marked ≡ true → IsMarked old (leave pass) k.service b) (without_client (queue_at old k.service) k.client)
    at_place k found =
        let kept = filter (λ a. not (is_of k.client a) || is_running a.stage) (queue_at old k.service) in
        let there = All-filter (λ a. not (is_of k.client a) || is_running a.stage) (λ a. was_pending old k.service (ticket_of a) ≡ true) (queue_at old k.service) (pending_same (queue_at old k.service)) in
        let was = marked_filter (λ a. not (is_of k.client a) || is_running a.stage) (queue_at old k.service) in
        All-map (λ b. b.marked ≡ true → IsMarked old (leave pass) k.service b) (λ a. mark (is_of k.client a) a) kept (λ i d within m. elim (either (get_or kept i d).marked _ m) [
          | inl marked ↦ before (was i d within marked)
          | inr its ↦ left_by pass refl (record { connection = k; is_open = found; at_service = refl; its = sym (eqb-true (get_or kept i d).client.0 k.client.0 its) }) (there i d within)
        ])

    go : (o : Option Connection) → connection_of old pass ≡ o → MatchOption o (new ≡ old) (λ k. new ≡ left old k) → MarksHaveCauses old (leave pass) new
    go None none is = from_before old (leave pass) new (rw is (same_state old))
    go (Some k) found is = rw is (λ b. elim (cases_Bool (is_service k.service b)) [
      | inl y ↦ rw (same_service k.service b y, queue_here old.queues k.service k.service (without_client (queue_at old k.service) k.client) (itself k.service)) (at_place k found)
      | inr n ↦ rw (queue_there old.queues k.service b (without_client (queue_at old k.service) k.client) n) (each (λ a. a.marked ≡ true → has_mark (queue_at old b) (ticket_of a) ≡ true) (λ a. a.marked ≡ true → IsMarked old (leave pass) b a) (λ a was m. before (was m)) (queue_at old b) (marked_same (queue_at old b)))
    ])

bare_marks : (s : State) (seen : Seen) (life boot : ℕ) → Same s (bare seen life boot)
bare_marks s seen life boot Publisher = All-nil _
bare_marks s seen life boot Card = All-nil _
bare_marks s seen life boot Keys = All-nil _
bare_marks s seen life boot Cash = All-nil _

marked_by : (old : State) (event : Event) (told_ : Answer) (new : State) → Happens old event told_ new → MarksHaveCauses old event new
marked_by old (join service) (joined pass) new is = from_before old (join service) new (rw (is.is) (same_state old))
marked_by old (join service) full new is = from_before old (join service) new (rw (is.1) (same_state old))
marked_by old (post pass text now) done new is = posts old pass text now new is
marked_by old (touch it) told_ new is = from_before old (touch it) new (touches old it told_ new is)
marked_by old (work service now) told_ new is = from_before old (work service now) new (does (at_moment old now) new (case_of (at_moment old now) service) service is.1)
marked_by old (outbox pass) (handed frames) new is = from_before old (outbox pass) new (hands old pass frames new is)
marked_by old (leave pass) done new is = leaves old pass new is
marked_by old restart restarted new is = from_before old restart new (rw (is.is) (bare_marks old is.next old.life (length is.next.guard.records)))
marked_by old restart unrestarted new is = from_before old restart new (rw (is.is) (bare_marks old is.next old.life 0))
marked_by old end_ ended new is = from_before old end_ new (rw is (bare_marks old old.seen old.life 0))
marked_by old finish ended new is = from_before old finish new (rw (is.is) (bare_marks old is.next old.life 0))
marked_by old finish unsettled new is = from_before old finish new (rw (is.is) (bare_marks old is.next old.life 0))
marked_by old happening told_ new is = absurd is

pub marks : (old new : State) (event : Event) (told_ : Answer) → Step old event told_ new → MarksHaveCauses old event new
marks old new event told_ (happens up is) = marked_by old event told_ new is
marks old new event told_ (wanting is_memory wants) = let u = unmoved old new event wants in from_before old event new (rw (u.is) (same_state old))
