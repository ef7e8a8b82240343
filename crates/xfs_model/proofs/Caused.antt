-- Each result has its cause, and keeps it.
use Rattle.std.proofs.Common.{◌≡◌, ℕ, ◌≤◌, ◌==◌, ◌&&◌, ◌||◌, not, nat_le, Bool, true, false, cond, MatchBool, MatchOption, List, [], ◌∷◌, Option, None, Some, Result, Ok, Err, length, get_or, map, find, All, AllPairs, refl, ap, sym, ◌∙◌, inl, inr, arith}
use Rattle.std.specs.List.{list_any}
use Rattle.std.specs.Option.{IfSome}
use Rattle.std.proofs.lemmas.Bool.{cases_Bool, and_parts, false≢true, leb-true, le-leb}
use Rattle.std.proofs.lemmas.List.Elements.{All-cons, All-filter, All-map, All-nil, All-push}
use Rattle.xfs_base.specs.declared.moment.Moment.{Moment}
use Rattle.xfs_base.specs.declared.moment.Service.{Service}
use Rattle.xfs_base.specs.declared.moment.Service.TheVariants.{Publisher, Card, Keys, Cash}
use Rattle.xfs_envelope.specs.declared.code.Code.TheVariants.{Canceled, TimeOut}
use Rattle.xfs_queue.specs.declared.command.Command.{Command}
use Rattle.xfs_queue.specs.Commands.{ticket_of, is_at, is_due, deadline}
use Rattle.xfs_queue.specs.Queue.{IsQueue, is_crowded}
use Rattle.xfs_queue.proofs.Places.{AreApart}
use Rattle.xfs_model.specs.Causes.{HasCauses, IsCaused}
use Rattle.xfs_card.specs.Slot.{Slot}
use Rattle.xfs_card.specs.Table as card_reader
use Rattle.xfs_card.specs.declared.state.CardEvent.{CardEvent}
use Rattle.xfs_card.specs.declared.state.CardEvent.TheVariants as card_event
use Rattle.xfs_common.specs.Cancel.{request_ids}
use Rattle.xfs_common.specs.Payloads.{nothing}
use Rattle.xfs_common.specs.declared.error.ErrorCode.TheVariants.{NoMatchingRequestIds}
use Rattle.xfs_conversation.specs.Pending.{is_wrong_id}
use Rattle.xfs_dispenser.specs.Answers.{Start, told, planned, Went, more, done as over}
use Rattle.xfs_dispenser.specs.Seen.{Seen}
use Rattle.xfs_dispenser.specs.declared.plan.Plan.{Plan}
use Rattle.xfs_envelope.specs.Commands.{command_in}
use Rattle.xfs_envelope.specs.Commands as envelope
use Rattle.xfs_envelope.specs.declared.code.Status.TheVariants.{InvalidRequestId, TooManyRequests}
use Rattle.xfs_envelope.specs.declared.command.Refuse.{Refuse}
use Rattle.xfs_json.specs.declared.members.Shape.{Shape}
use Rattle.xfs_keyboard.specs.Keyboard as keyboard
use Rattle.xfs_keyboard.specs.declared.state.KeyEvent.{KeyEvent}
use Rattle.xfs_keyboard.specs.declared.state.KeyEvent.TheVariants as key_event
use Rattle.xfs_mech.specs.declared.touch.Touch.{Touch}
use Rattle.xfs_mech.specs.declared.touch.Touch.TheVariants.{CardIn, CardTaken, CardFault, Key, KeyFault, NotesTaken}
use Rattle.xfs_queue.specs.declared.command.Ids.{Ids}
use Rattle.xfs_queue.specs.declared.command.Line.TheVariants.{Nonce, Device}
use Rattle.xfs_queue.specs.Commands.{is_of, is_ready, is_running, is_waiting, waits_on}
use Rattle.xfs_queue.specs.Queue.{canceled, is_named, mark, without, without_client}
use Rattle.xfs_model.specs.Cases.{AnswersFirst, BeginsAs, Does, DoesNonce, Stops, TakesNonce, WorksOnPlan, resulting, with_start, with_went}
use Rattle.xfs_common.specs.Commands.{immediate_of}
use Rattle.xfs_model.specs.declared.known.Known.{Known}
use Rattle.xfs_model.specs.Commands.{known_of}
use Rattle.xfs_model.specs.Connections.{announced, connection_of, is_service, left, sent, with_queue_at, without_mail}
use Rattle.xfs_model.specs.Devices.{Hears, Saying, card_says, device_stopped, keyboard_says, with_keypad, with_saying, with_slot}
use Rattle.xfs_model.specs.Events.{Answer, Event, join, post, touch, work, outbox, leave, restart, end_, finish, joined, full, done, handed, restarted, unrestarted, ended, unsettled}
use Rattle.xfs_model.specs.Guards.{NonceCommand, cleared_, issued, none_to_clear, refused, uncleared, unissued}
use Rattle.xfs_model.specs.Immediate.{AtOnce, canceling, done_at_once, ids_of, stop, stopped}
use Rattle.xfs_model.specs.Kept.{IsMachine}
use Rattle.xfs_model.specs.Pendings.{pending_in}
use Rattle.xfs_model.specs.Posts.{Accepts, Refuses, TakesText, TakesOn}
use Rattle.xfs_model.specs.Results.{changed, closing, error, plain, success, with_plan, with_result}
use Rattle.xfs_model.specs.State.{Ask, issue, clear, cash, card, entry, bad, Connection, Job, Outcome, Pass, State, bare, queue_at}
use Rattle.xfs_model.specs.Step.{Happens, HandsOver, DropsClient, Posts, Step, at_moment, happens, wanting}
use Rattle.xfs_model.specs.Touches.{CardSays, IsHeard, TakesNotes, Touches, TouchesCard, TouchesKeys, failed, running_at, shut, took}
use Rattle.xfs_model.specs.Work as working
use Rattle.xfs_model.specs.Work.{case_of, is_overdue, is_stopped}
use Rattle.xfs_model.proofs.Lists.{found_passes, found_all}
use Rattle.xfs_model.proofs.Machines.{aside as same_machine}
use Rattle.xfs_model.proofs.Queues.{queue_here, queue_there}
use Rattle.xfs_model.proofs.Changes.{each, head_pairs, tail_pairs, turned}
use Rattle.xfs_model.proofs.Codes.{EffectOwn, IsOwn, StartOwn, WentOwn, begins_own, card_own, is_stopping, works_own}
use Rattle.xfs_model.proofs.AtOnce.{by_command}
use Rattle.xfs_model.proofs.Wanting.{unmoved}
use Rattle.std.proofs.lemmas.Option.{same_Some, none-some}

-- the command that is found stands alone at its ticket
pub only_one : (p : Command Job → Bool) (q : List (Command Job)) (a : Command Job) → find p q ≡ Some a → AllPairs AreApart q → All (λ b. is_at (ticket_of a) b ≡ true → b ≡ a) q
only_one p [] a found apart = All-nil (λ b. is_at (ticket_of a) b ≡ true → b ≡ a)
only_one p (x ∷ q) a found apart = elim (cases_Bool (p x)) [
  | inl y ↦
      let it : x ≡ a = same_Some x a (rw y at found) in
      All-cons (λ b. is_at (ticket_of a) b ≡ true → b ≡ a) x q (λ at. it)
      (each (AreApart x) (λ b. is_at (ticket_of a) b ≡ true → b ≡ a) (λ b other at. absurd (false≢true (sym other ∙ ap (λ (c : Command Job). is_at (ticket_of c) b) it ∙ at))) q (head_pairs AreApart x q apart))
  | inr n ↦
      let later : find p q ≡ Some a = rw n at found in
      let other : is_at (ticket_of x) a ≡ false = found_all (AreApart x) p q a later (head_pairs AreApart x q apart) in
      All-cons (λ b. is_at (ticket_of a) b ≡ true → b ≡ a) x q (λ at. absurd (false≢true (sym other ∙ turned x a at)))
      (only_one p q a later (tail_pairs AreApart x q apart))
]

-- a change of the command that is found
pub changed_caused : (now : Moment) (f : Command Job → Command Job) (p : Command Job → Bool) (a : Command Job) (q : List (Command Job)) → find p q ≡ Some a → IsQueue q → (IsCaused now a → IsCaused now (f a))
    → All (IsCaused now) q → All (IsCaused now) (changed f a q)
changed_caused now f p a q found is step all =
    let alone = only_one p q a found is.ids in
    All-map (IsCaused now) (λ b. cond (is_at (ticket_of a) b) (f b) b) q (λ k d within. one (get_or q k d) (all k d within) (alone k d within))
  where
    one : (b : Command Job) → IsCaused now b → (is_at (ticket_of a) b ≡ true → b ≡ a) → IsCaused now (cond (is_at (ticket_of a) b) (f b) b)
    one b caused same = elim (cases_Bool (is_at (ticket_of a) b)) [
      | inl y ↦
          let it : b ≡ a = same y in
          rw (y, it) (step (rw it at caused))
      | inr n ↦ rw n caused
    ]

-- a result of its own
pub own_result : (now : Moment) (result : Outcome) (a : Command Job) → IsOwn result.code → IsCaused now (with_result result a)
own_result now result a own = record {
  ready = λ y. refl;
  canceled = λ r is code. absurd (false≢true (sym own ∙ ap is_stopping (code_of result r a is ∙ code)));
  late = λ r is code. absurd (false≢true (sym own ∙ ap is_stopping (code_of result r a is ∙ code)));
}
  where
    code_of : (result r : Outcome) (a : Command Job) → Some (closing a.job result) ≡ Some r → result.code ≡ r.code
    code_of result r a is = ap (λ (o : Outcome). o.code) (same_Some (closing a.job result) r is)

-- the commands of one service are others
with_queue_ : (s : State) (service : Service) (q : List (Command Job)) → All (IsCaused s.now) q → HasCauses s → HasCauses (with_queue_at s service q)
with_queue_ s service q all h = λ b. elim (cases_Bool (is_service service b)) [
  | inl y ↦ rw (queue_here s.queues service b q y) all
  | inr n ↦ rw (queue_there s.queues service b q n) (h b)
]

announced_caused : (s : State) (service : Service) (frame : Option (List ℕ)) → HasCauses s → HasCauses (announced s service frame)
announced_caused s service None h = h
announced_caused s service (Some frame) h = h

-- a later moment
later_due : (old now : Moment) (a : Command Job) → is_due old a ≡ true → is_due (record { 0 = cond (nat_le old.0 now.0) now.0 old.0 }) a ≡ true
later_due old now a due = elim (cases_Bool (nat_le old.0 now.0)) [
  | inl y ↦
      let parts = and_parts (not (a.timeout == 0)) (nat_le (deadline a) old.0) due in
      let before : deadline a ≤ old.0 = leb-true _ _ parts.1 in
      let after : old.0 ≤ now.0 = leb-true _ _ y in
      let come : nat_le (deadline a) now.0 ≡ true = le-leb _ _ (omega (arith, before, after)) in
      rw (y, parts.0) come
  | inr n ↦ rw n due
]

moment_is : (b : Bool) (old now : Moment) → (cond b now old) ≡ record { 0 = cond b now.0 old.0 }
moment_is true old now = refl
moment_is false old now = refl

pub later_causes : (s : State) (now : Moment) → HasCauses s → HasCauses (at_moment s now)
later_causes s now h = λ service. each (IsCaused s.now) (IsCaused (at_moment s now).now) (λ a is. rw (moment_is (nat_le s.now.0 now.0) s.now now) record {
  ready = is.ready;
  canceled = is.canceled;
  late = λ result has code. later_due s.now now a (is.late result has code);
}) (queue_at s service) (h service)

-- the marks of a queue are no results
marked_caused : (now : Moment) (m : Command Job → Bool) (q : List (Command Job)) → All (IsCaused now) q → All (IsCaused now) (map (λ a. mark (m a) a) q)
marked_caused now m q all = All-map (IsCaused now) (λ a. mark (m a) a) q (each (IsCaused now) (λ a. IsCaused now (mark (m a) a)) (λ a is. record {
  ready = is.ready;
  canceled = λ result has code. rw (is.canceled result has code) refl;
  late = is.late;
}) q all)

-- a command that runs on keeps its cause
with_plan_caused : (now : Moment) (plan : Plan) (b : Bool) (a : Command Job) → IsCaused now a → IsCaused now (with_plan plan b a)
with_plan_caused now plan b a is = record { ready = λ y. absurd (false≢true y); canceled = is.canceled; late = is.late }

went_caused : (now : Moment) (plan : Plan) (b : Bool) (went : Went) (a : Command Job) → WentOwn went → IsCaused now a → IsCaused now (with_went plan b went a)
went_caused now plan b more a own is = with_plan_caused now plan b a is
went_caused now plan b (over result) a own is = own_result now _ (with_plan plan b a) own

start_caused : (now : Moment) (start : Start) (a : Command Job) → StartOwn start → IsCaused now a → IsCaused now (with_start start a)
start_caused now (told result) a own is = own_result now _ a own
start_caused now (planned plan) a own is = with_plan_caused now plan false a is

abbrev SayingOwn : Saying → Type 0
SayingOwn saying = IfSome saying.result (λ (r : Outcome). IsOwn r.code)

saying_caused : (now : Moment) (result : Option Outcome) (a : Command Job) → IfSome result (λ (r : Outcome). IsOwn r.code) → IsCaused now a → IsCaused now (with_saying result a)
saying_caused now None a own is = record { ready = λ y. absurd (false≢true y); canceled = is.canceled; late = is.late }
saying_caused now (Some r) a own is = own_result now r a own

card_saying_own : (effect : card_reader.Effect) → EffectOwn effect → SayingOwn (card_says effect)
card_saying_own card_reader.nothing own = tt
card_saying_own card_reader.ask_insert own = tt
card_saying_own (card_reader.inserted payload) own = refl
card_saying_own (card_reader.done code payload) own = own
card_saying_own card_reader.removed own = tt

keyboard_saying_own : (effect : keyboard.Effect) → SayingOwn (keyboard_says effect)
keyboard_saying_own keyboard.nothing = tt
keyboard_saying_own (keyboard.told key) = tt
keyboard_saying_own (keyboard.ended key payload) = refl
keyboard_saying_own keyboard.failed = refl

nonce_own : (s : State) (ask : Ask) (result : Outcome) (next : Seen) (moment : Moment) → NonceCommand s ask result next moment → IsOwn result.code
nonce_own s ask result next moment (refused asks unfit) = refl
nonce_own s ask result next moment (issued now fit marks) = refl
nonce_own s ask result next moment (unissued now fit misses) = refl
nonce_own s ask result next moment (cleared_ now fit live marks) = refl
nonce_own s ask result next moment (uncleared now fit live misses) = refl
nonce_own s ask result next moment (none_to_clear fit dead) = refl

-- a command that was canceled, or is too late
canceled_result : (now : Moment) (a : Command Job) → a.marked ≡ true → IsCaused now (with_result (plain Canceled) a)
canceled_result now a marked = record { ready = λ y. refl; canceled = λ r is code. marked; late = λ r is code. absurd (not_late (ap (λ (o : Outcome). o.code) (same_Some (closing a.job (plain Canceled)) r is) ∙ code)) }
  where
    not_late : Canceled ≡ TimeOut → ⊥
    not_late e = cc

late_result : (now : Moment) (a : Command Job) → is_due now a ≡ true → IsCaused now (with_result (plain TimeOut) a)
late_result now a due = record { ready = λ y. refl; canceled = λ r is code. absurd (not_canceled (ap (λ (o : Outcome). o.code) (same_Some (closing a.job (plain TimeOut)) r is) ∙ code)); late = λ r is code. due }
  where
    not_canceled : TimeOut ≡ Canceled → ⊥
    not_canceled e = cc

stop_result : (now : Moment) (a : Command Job) (b : Bool) → a.marked ≡ b → (b || is_due now a) ≡ true → IsCaused now (with_result (plain (cond b Canceled TimeOut)) a)
stop_result now a true marked holds = canceled_result now a marked
stop_result now a false marked holds = late_result now a holds

module _ (s new : State) (machine : IsMachine s) (h : HasCauses s) where
  change : (service : Service) (f : Command Job → Command Job) (p : Command Job → Bool) (a : Command Job) → find p (queue_at s service) ≡ Some a → (IsCaused s.now a → IsCaused s.now (f a))
      → HasCauses (with_queue_at s service (changed f a (queue_at s service)))
  change service f p a found step = with_queue_ s service (changed f a (queue_at s service)) (changed_caused s.now f p a (queue_at s service) found (machine.queues service) step (h service)) h

  hears : (service : Service) (p : Command Job → Bool) (a : Command Job) → find p (queue_at s service) ≡ Some a → (saying : Saying) → SayingOwn saying → Hears s service a saying new → HasCauses new
  hears service p a found saying own is = rw (is.is) ((change service (with_saying saying.result) p a found (saying_caused s.now saying.result a own)))

  takes_nonce : TakesNonce s new → HasCauses new
  takes_nonce is = by_time (is_due s.now is.command) refl is.is
    where
      by_time : (b : Bool) → is_due s.now is.command ≡ b → MatchBool b (new ≡ resulting s Cash is.command (plain TimeOut)) (DoesNonce s is.command new) → HasCauses new
      by_time true due late = rw late (change Cash (with_result (plain TimeOut)) (waits_on Nonce) is.command is.first (λ caused. late_result s.now is.command due))
      by_time false due does = rw (does.is) ((change Cash (with_result does.result) (waits_on Nonce) is.command is.first (λ caused. own_result s.now does.result is.command (nonce_own s is.command.job.ask does.result does.next does.issued does.done))))

  works_on_plan : WorksOnPlan s new → HasCauses new
  works_on_plan is =
      let f = with_went is.left _ is.went in
      rw (is.is) ((change Cash f (λ a. is_running a.stage) is.command is.runs (went_caused s.now is.left _ is.went is.command (works_own s.seen is.plan is.next is.left is.went is.works))))

  stops : (service : Service) → Stops s service new → HasCauses new
  stops service is =
      let passes = found_passes (is_stopped s) (queue_at s service) is.command is.first in
      let holds = (and_parts _ _ passes).1 in
      rw (is.is) (of_device service _ (change service (with_result (plain (cond is.command.marked Canceled TimeOut))) (is_stopped s) is.command is.first (λ caused. stop_result s.now is.command is.command.marked refl holds)))
    where
      of_device : (device : Service) (t : State) → HasCauses t → HasCauses (device_stopped t device)
      of_device Publisher t talks = talks
      of_device Card t talks = talks
      of_device Keys t talks = talks
      of_device Cash t talks = talks

  answers_first : (service : Service) → AnswersFirst s service new → HasCauses new
  answers_first service is = rw (is.is) (behind is.before)
    where
      behind : (before : Option (List ℕ)) → HasCauses (with_queue_at (sent (announced s service before) service is.command.client (is.last ∷ [])) service (without (queue_at s service) (ticket_of is.command)))
      behind None = with_queue_ (sent s service is.command.client (is.last ∷ [])) service (without (queue_at s service) (ticket_of is.command)) (All-filter _ (IsCaused s.now) (queue_at s service) (h service)) h
      behind (Some frame) = with_queue_ (sent (announced s service (Some frame)) service is.command.client (is.last ∷ [])) service (without (queue_at s service) (ticket_of is.command)) (All-filter _ (IsCaused s.now) (queue_at s service) (h service)) h

  begins_as : (service : Service) (a : Command Job) → find (waits_on Device) (queue_at s service) ≡ Some a → (ask : Ask) → BeginsAs ask s service a new → HasCauses new
  begins_as service a found bad is = rw is (change service (with_result (plain _)) (waits_on Device) a found (λ caused. own_result s.now _ a refl))
  begins_as service a found (cash ask) is = rw (is.is) ((change service (with_start is.start) (waits_on Device) a found (start_caused s.now is.start a (begins_own s.seen s.exchange ask is.next is.exchange is.start is.begins))))
  begins_as service a found (card ask) is =
      rw (is.is) ((change service (with_saying (card_says (card_reader.row_of s.slot (card_event.Begin ask)).effect).result) (waits_on Device) a found
      (saying_caused s.now (card_says (card_reader.row_of s.slot (card_event.Begin ask)).effect).result a (card_saying_own _ (card_own s.slot (card_event.Begin ask))))))
  begins_as service a found (entry ask) is =
      rw (is.is) ((change service (with_saying (keyboard_says (keyboard.row_of s.keypad (key_event.Begin ask)).effect).result) (waits_on Device) a found
      (saying_caused s.now (keyboard_says (keyboard.row_of s.keypad (key_event.Begin ask)).effect).result a (keyboard_saying_own (keyboard.row_of s.keypad (key_event.Begin ask)).effect))))
  begins_as service a found issue is = absurd is
  begins_as service a found clear is = absurd is

  does : (case : working.Case) (service : Service) → Does case s service new → HasCauses new
  does working.order service is = works_on_plan is
  does working.expire service is = rw (is.is) (announced_caused s Cash is.frame h)
  does working.answer service is = answers_first service is
  does working.nonce service is = takes_nonce is
  does working.overdue service is =
      let passes = found_passes (is_overdue s) (queue_at s service) is.command is.first in
      rw (is.is) (change service (with_result (plain TimeOut)) (is_overdue s) is.command is.first (λ caused. late_result s.now is.command ((and_parts _ _ passes).1)))
  does working.stop service is = stops service is
  does working.go_on service is = works_on_plan is
  does working.begin service is = begins_as service is.command is.first is.command.job.ask is.begins
  does working.rest service is = rw is h

  is_heard : (service : Service) (o : Option (Command Job)) → running_at s service ≡ o → (saying : Saying) → SayingOwn saying → IsHeard s service o saying new → HasCauses new
  is_heard service None none saying own is = rw is h
  is_heard service (Some a) found saying own is = hears service (λ b. is_running b.stage) a found saying own is

  card_says_ : (effect : card_reader.Effect) → EffectOwn effect → CardSays s effect new → HasCauses new
  card_says_ card_reader.removed own is = rw (is.2) h
  card_says_ card_reader.nothing own is = is_heard Card (running_at s Card) refl (card_says card_reader.nothing) tt is
  card_says_ card_reader.ask_insert own is = is_heard Card (running_at s Card) refl (card_says card_reader.ask_insert) tt is
  card_says_ (card_reader.inserted payload) own is = is_heard Card (running_at s Card) refl (card_says (card_reader.inserted payload)) refl is
  card_says_ (card_reader.done code payload) own is = is_heard Card (running_at s Card) refl (card_says (card_reader.done code payload)) own is

  takes_on : (k : Connection) (c : envelope.Command) (known : Option Known) → TakesOn s k c known new → HasCauses new
  takes_on k c None is = rw (is.is) (with_queue_ s k.service (done_at_once s k c).queue at_once_caused h)
    where
      stop_caused : (a : Command Job) (b : Bool) → (b ≡ true → a.marked ≡ true) → IsCaused s.now a → IsCaused s.now (cond b (with_result (plain Canceled) a) a)
      stop_caused a true marked is = canceled_result s.now a (marked refl)
      stop_caused a false marked is = is

      stopped_caused : (ids : Ids) → All (IsCaused s.now) (stopped (queue_at s k.service) k.client ids)
      stopped_caused ids = All-map (IsCaused s.now) stop (canceled (queue_at s k.service) k.client ids) (each (IsCaused s.now) (λ a. IsCaused s.now (stop a))
          (λ a caused. stop_caused a (is_waiting a.stage && a.marked) (λ y. (and_parts (is_waiting a.stage) a.marked y).1) caused) (canceled (queue_at s k.service) k.client ids)
          (marked_caused s.now (λ a. is_named k.client ids a && not (is_ready a.stage)) (queue_at s k.service) (h k.service)))

      if_named : (ids : Ids) (b : Bool) → All (IsCaused s.now) (cond {A = AtOnce} b (record { result = success nothing; queue = stopped (queue_at s k.service) k.client ids }) (record { result = error NoMatchingRequestIds; queue = queue_at s k.service })).queue
      if_named ids true = stopped_caused ids
      if_named ids false = h k.service

      canceling_caused : (ids : Result (Option (List ℕ)) Shape) → All (IsCaused s.now) (canceling (queue_at s k.service) k.client ids).queue
      canceling_caused (Err shape) = h k.service
      canceling_caused (Ok ids) = if_named (ids_of ids) (list_any (is_named k.client (ids_of ids)) (queue_at s k.service))

      at_once_caused : All (IsCaused s.now) (done_at_once s k c).queue
      at_once_caused = by_command s k c.payload (λ did. All (IsCaused s.now) did.queue) (immediate_of k.service c.name) (λ is. canceling_caused (request_ids c.payload)) (h k.service)
  takes_on k c (Some known) is = of_room (is_crowded (queue_at s k.service) k.client) is
    where
      of_room : (b : Bool) → MatchBool b (Refuses s k (Some c.id) (Some c.name) TooManyRequests new) (Accepts s k known c new) → HasCauses new
      of_room true is = rw (is.is) h
      of_room false is = rw (is.is) (with_queue_ s k.service _ (All-push (IsCaused s.now) (queue_at s k.service) _ (h k.service) (record { ready = λ y. absurd (false≢true y); canceled = λ r has code. absurd (none-some r has); late = λ r has code. absurd (none-some r has) })) h)

  takes : (k : Connection) (says : Result envelope.Command Refuse) → TakesText s k says new → HasCauses new
  takes k (Err refuse) is = rw (is.is) h
  takes k (Ok c) is = of_id (is_wrong_id (pending_in k.client (queue_at s k.service)) c.id) is
    where
      of_id : (b : Bool) → MatchBool b (Refuses s k (Some c.id) (Some c.name) InvalidRequestId new) (TakesOn s k c (known_of k.service c.name) new) → HasCauses new
      of_id true is = rw (is.is) h
      of_id false is = takes_on k c (known_of k.service c.name) is

touches_card : (s : State) (event : CardEvent) (new : State) → TouchesCard s event new → IsMachine (with_slot s (card_reader.row_of s.slot event).next) → HasCauses s → HasCauses new
touches_card s event new is machine h = card_says_ (with_slot s (card_reader.row_of s.slot event).next) new machine h (card_reader.row_of s.slot event).effect (card_own s.slot event) is

touches_keys : (s : State) (event : KeyEvent) (new : State) → TouchesKeys s event new → IsMachine (with_keypad s (keyboard.row_of s.keypad event).next) → HasCauses s → HasCauses new
touches_keys s event new is machine h =
    is_heard (with_keypad s (keyboard.row_of s.keypad event).next) new machine h Keys (running_at s Keys) refl (keyboard_says (keyboard.row_of s.keypad event).effect) (keyboard_saying_own (keyboard.row_of s.keypad event).effect) is

takes_notes : (s : State) (told_ : Answer) (new : State) → TakesNotes s told_ new → HasCauses s → HasCauses new
takes_notes s told_ new (shut closed) h = h
takes_notes s told_ new (took moved next open_ takes) h = h
takes_notes s told_ new (failed moved next open_ takes) h = h

-- what the machine keeps doesn't look at its devices
with_slot_kept : (s : State) (slot : Slot) → IsMachine s → IsMachine (with_slot s slot)
with_slot_kept s slot is = same_machine s (with_slot s slot) refl refl refl is

with_keypad_kept : (s : State) (event : KeyEvent) → IsMachine s → IsMachine (with_keypad s (keyboard.row_of s.keypad event).next)
with_keypad_kept s event is = same_machine s (with_keypad s (keyboard.row_of s.keypad event).next) refl refl refl is

touches : (s : State) (touch : Touch) (told_ : Answer) (new : State) → Touches s touch told_ new → IsMachine s → HasCauses s → HasCauses new
touches s (CardIn tracks) told_ new is machine h = touches_card s (card_event.Inserted tracks) new is.1 (with_slot_kept s _ machine) h
touches s CardTaken told_ new is machine h = touches_card s card_event.Removed new is.1 (with_slot_kept s _ machine) h
touches s CardFault told_ new is machine h = touches_card s card_event.Fault new is.1 (with_slot_kept s _ machine) h
touches s (Key key) told_ new is machine h = touches_keys s (key_event.Key key) new is.1 (with_keypad_kept s (key_event.Key key) machine) h
touches s KeyFault told_ new is machine h = touches_keys s key_event.Fault new is.1 (with_keypad_kept s key_event.Fault machine) h
touches s NotesTaken told_ new is machine h = takes_notes s told_ new is h

posts : (old : State) (pass : Pass) (text : List ℕ) (now : Moment) (new : State) → Posts old pass text now new → IsMachine (at_moment old now) → HasCauses old → HasCauses new
posts old pass text now new is machine h = go (connection_of old pass) is
  where
    go : (o : Option Connection) → MatchOption o (new ≡ old) (λ k. TakesText (at_moment old now) k (command_in text) new) → HasCauses new
    go None is = rw is h
    go (Some k) is = takes (at_moment old now) new machine (later_causes old now h) k (command_in text) is

hands : (old : State) (pass : Pass) (frames : List (List ℕ)) (new : State) → HandsOver old pass frames new → HasCauses old → HasCauses new
hands old pass frames new is h = go (connection_of old pass) is
  where
    go : (o : Option Connection) → MatchOption o ((frames ≡ []) × (new ≡ old)) (λ k. (frames ≡ k.waiting) × (new ≡ record old { connections = map (without_mail k.client) old.connections })) → HasCauses new
    go None is = rw (is.1) h
    go (Some k) is = rw (is.1) h

leaves_at : (old : State) (k : Connection) → HasCauses old → HasCauses (left old k)
leaves_at old k h = with_queue_ old k.service (without_client (queue_at old k.service) k.client)
    (marked_caused old.now (is_of k.client) _ (All-filter _ (IsCaused old.now) (queue_at old k.service) (h k.service))) h

leaves : (old : State) (pass : Pass) (new : State) → DropsClient old pass new → HasCauses old → HasCauses new
leaves old pass new is h = go (connection_of old pass) is
  where
    go : (o : Option Connection) → MatchOption o (new ≡ old) (λ k. new ≡ left old k) → HasCauses new
    go None is = rw is h
    go (Some k) is = rw is (leaves_at old k h)

pub bare_causes : (seen : Seen) (life boot : ℕ) → HasCauses (bare seen life boot)
bare_causes seen life boot Publisher = All-nil _
bare_causes seen life boot Card = All-nil _
bare_causes seen life boot Keys = All-nil _
bare_causes seen life boot Cash = All-nil _

caused_by : (old : State) (event : Event) (told_ : Answer) (new : State) → Happens old event told_ new → IsMachine old → HasCauses old → HasCauses new
caused_by old (join service) (joined pass) new is machine h = rw (is.is) h
caused_by old (join service) full new is machine h = rw (is.1) h
caused_by old (post pass text now) done new is machine h = posts old pass text now new is (same_machine old (at_moment old now) refl refl refl machine) h
caused_by old (touch it) told_ new is machine h = touches old it told_ new is machine h
caused_by old (work service now) told_ new is machine h =
    does (at_moment old now) new (same_machine old (at_moment old now) refl refl refl machine) (later_causes old now h) (case_of (at_moment old now) service) service is.1
caused_by old (outbox pass) (handed frames) new is machine h = hands old pass frames new is h
caused_by old (leave pass) done new is machine h = leaves old pass new is h
caused_by old restart restarted new is machine h = rw (is.is) (bare_causes is.next old.life (length is.next.guard.records))
caused_by old restart unrestarted new is machine h = rw (is.is) (bare_causes is.next old.life 0)
caused_by old end_ ended new is machine h = rw is (bare_causes old.seen old.life 0)
caused_by old finish ended new is machine h = rw (is.is) (bare_causes is.next old.life 0)
caused_by old finish unsettled new is machine h = rw (is.is) (bare_causes is.next old.life 0)
caused_by old event told_ new is machine h = absurd is

pub causes_kept : (old new : State) (event : Event) (told_ : Answer) → IsMachine old → Step old event told_ new → HasCauses old → HasCauses new
causes_kept old new event told_ machine (happens up is) h = caused_by old event told_ new is machine h
causes_kept old new event told_ machine (wanting is_memory wants) h = let u = unmoved old new event wants in rw (u.is) h
