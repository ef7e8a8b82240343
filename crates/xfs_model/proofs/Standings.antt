-- Each step keeps the devices tied to their running commands, and the open order to the running command of the dispenser.
use Rattle.std.proofs.Common.{◌≡◌, ◌≢◌, ◌≤◌, ℕ, ◌&&◌, ◌||◌, not, nat_le, Bool, true, false, cond, MatchBool, MatchOption, List, [], ◌∷◌, Option, None, Some, Result, Ok, Err, length, get_or, map, filter, find, is_none, is_some, All, refl, ap, sym, subst, ◌∙◌, inl, inr, arith}
use Rattle.std.specs.List.{list_any}
use Rattle.std.proofs.lemmas.Bool.{cases_Bool, and_parts, false≢true, leb-true, or_right}
use Rattle.xfs_base.specs.declared.moment.ClientId.{ClientId}
use Rattle.xfs_base.specs.declared.moment.Moment.{Moment}
use Rattle.xfs_base.specs.declared.moment.Service.{Service}
use Rattle.xfs_base.specs.declared.moment.Service.TheVariants.{Publisher, Card, Keys, Cash}
use Rattle.xfs_card.specs.Slot.{Slot, empty, awaited, inside, at_exit, is_awaited}
use Rattle.xfs_card.specs.Table as card_reader
use Rattle.xfs_card.specs.declared.ask.CardAsk.{CardAsk}
use Rattle.xfs_card.specs.declared.ask.CardAsk.TheVariants as card_ask
use Rattle.xfs_card.specs.declared.state.CardEvent.{CardEvent}
use Rattle.xfs_card.specs.declared.state.CardEvent.TheVariants as card_event
use Rattle.xfs_common.specs.Cancel.{request_ids}
use Rattle.xfs_common.specs.Payloads.{nothing}
use Rattle.xfs_common.specs.declared.error.ErrorCode.TheVariants.{NoMatchingRequestIds}
use Rattle.xfs_conversation.specs.Pending.{is_wrong_id}
use Rattle.xfs_dispenser.specs.Answers.{Went, more, done as over_}
use Rattle.xfs_dispenser.specs.Seen.{Seen}
use Rattle.xfs_dispenser.specs.Steps.{Works}
use Rattle.xfs_dispenser.specs.declared.ask.CashAsk.{CashAsk}
use Rattle.xfs_dispenser.proofs.WorkLaws.{work-over}
use Rattle.xfs_envelope.specs.Commands.{command_in}
use Rattle.xfs_envelope.specs.Commands as envelope
use Rattle.xfs_envelope.specs.declared.code.Code.TheVariants.{Canceled, InvalidData, TimeOut}
use Rattle.xfs_envelope.specs.declared.code.Status.TheVariants.{InvalidRequestId, TooManyRequests}
use Rattle.xfs_envelope.specs.declared.command.Refuse.{Refuse}
use Rattle.xfs_guard.specs.View.{View}
use Rattle.xfs_guard.specs.declared.open.Open.{Open}
use Rattle.xfs_guard.specs.declared.open.Open.TheVariants.{No, Written, Acted}
use Rattle.xfs_json.specs.declared.members.Shape.{Shape}
use Rattle.xfs_keyboard.specs.Entries.{Entry, is_ignored, typed, completion}
use Rattle.xfs_keyboard.specs.Keyboard as keyboard
use Rattle.xfs_keyboard.specs.declared.ask.EntryAsk.{EntryAsk}
use Rattle.xfs_keyboard.specs.declared.state.KeyEvent.{KeyEvent}
use Rattle.xfs_keyboard.specs.declared.state.KeyEvent.TheVariants as key_event
use Rattle.xfs_mech.specs.declared.key.KeyName.{KeyName}
use Rattle.xfs_mech.specs.declared.touch.Touch.{Touch}
use Rattle.xfs_mech.specs.declared.touch.Touch.TheVariants.{CardIn, CardTaken, CardFault, Key, KeyFault, NotesTaken}
use Rattle.xfs_queue.specs.declared.command.Command.{Command}
use Rattle.xfs_queue.specs.declared.command.Ids.{Ids}
use Rattle.xfs_queue.specs.declared.command.Line.{Line}
use Rattle.xfs_queue.specs.declared.command.Line.TheVariants.{Nonce, Device}
use Rattle.xfs_queue.specs.declared.command.Stage.{Stage}
use Rattle.xfs_queue.specs.declared.command.Stage.TheVariants.{Waiting, Running, Ready}
use Rattle.xfs_queue.specs.Commands.{is_at, is_due, is_of, is_ready, is_running, is_waiting, ticket_of, waits_on}
use Rattle.xfs_queue.specs.Queue.{canceled, is_named, mark, without, without_client, is_crowded}
use Rattle.xfs_model.specs.Cases.{AnswersFirst, BeginsAs, BeginsCash, Does, DoesNonce, EndsLife, IsTooLate, Stops, TakesNonce, WorksOnPlan, has_ended, resulting, with_went}
use Rattle.xfs_common.specs.Commands.{immediate_of}
use Rattle.xfs_model.specs.declared.known.Known.{Known}
use Rattle.xfs_model.specs.Commands.{known_of}
use Rattle.xfs_model.specs.Connections.{announced, connection_of, is_service, left, sent, with_queue_at, without_mail}
use Rattle.xfs_model.specs.Devices.{card_says, device_stopped, keyboard_says, with_keypad, with_saying, with_slot}
use Rattle.xfs_model.specs.Events.{Answer, Event, join, post, touch, work, outbox, leave, restart, end_, finish, joined, full, done, handed, restarted, unrestarted, ended, unsettled}
use Rattle.xfs_model.specs.Guards.{Expires, NonceCommand, cleared_, ended as over, issued, none_to_clear, refused, uncleared, unended, unissued}
use Rattle.xfs_model.specs.Immediate.{AtOnce, canceling, done_at_once, ids_of, stop, stopped}
use Rattle.xfs_model.specs.Kept.{IsMachine}
use Rattle.xfs_model.specs.Pendings.{pending_in}
use Rattle.xfs_model.specs.Posts.{Accepts, Refuses, TakesText, TakesOn}
use Rattle.xfs_model.specs.Results.{changed, error, plain, success, with_result}
use Rattle.xfs_model.specs.Sound.{AreTied, IsFitting, MayAsk}
use Rattle.xfs_model.specs.State.{Ask, issue, clear, cash, card, entry, bad, Connection, Ending, Job, Outcome, Pass, State, bare, queue_at, with_queue}
use Rattle.xfs_model.specs.Step.{Happens, HandsOver, DropsClient, Posts, Step, at_moment, happens, wanting}
use Rattle.xfs_model.specs.Touches.{CardSays, IsHeard, TakesNotes, Touches, failed, running_at, shut, took}
use Rattle.xfs_model.specs.Work as working
use Rattle.xfs_model.specs.Work.{case_of, has_running, is_ordered, is_overdue, is_stopped}
use Rattle.xfs_model.proofs.Caused.{only_one}
use Rattle.xfs_model.proofs.Changes.{each}
use Rattle.xfs_model.proofs.Lists.{found_passes, found_all}
use Rattle.xfs_model.proofs.Machines.{aside as same_machine}
use Rattle.xfs_model.proofs.Queues.{queue_itself, queue_there, same_service}
use Rattle.xfs_model.proofs.Runnings.{all_rest, none_runs, others_rest, runs, runs_beside, runs_changed, runs_filter, runs_map, runs_push, some_runs}
use Rattle.xfs_model.proofs.StillPlanned.{begins_closed}
use Rattle.xfs_model.proofs.AtOnce.{by_command}
use Rattle.xfs_model.proofs.Wanting.{unmoved}

-- what this file keeps
pub record IsStanding (s : State) : Type 0 where
  pub ordered : s.boot ≢ 0 → is_ordered s.seen.guard.open_order ≡ true → has_running s Cash ≡ true
  pub devices : AreTied s
  pub issued : s.issued.0 ≤ s.now.0

-- nothing of it is touched
record IsAside (s t : State) : Type 0 where
  boot : t.boot ≡ s.boot
  slot : t.slot ≡ s.slot
  keypad : t.keypad ≡ s.keypad
  order : t.seen.guard.open_order ≡ s.seen.guard.open_order
  moment : t.issued.0 ≤ t.now.0
  running : (b : Service) → has_running t b ≡ has_running s b

aside : (s t : State) → IsAside s t → IsStanding s → IsStanding t
aside s t a h = record {
  ordered = λ up is. a.running Cash ∙ h.ordered (λ gone. up (a.boot ∙ gone)) (ap is_ordered (sym a.order) ∙ is);
  devices = record {
    slot = ap is_awaited a.slot ∙ h.devices.slot ∙ sym (a.running Card);
    keypad = ap is_some a.keypad ∙ h.devices.keypad ∙ sym (a.running Keys);
  };
  issued = a.moment;
}

-- the queue of one service is another, in which as many commands run
same_running : (s t : State) (service : Service) (q : List (Command Job)) → t.queues ≡ with_queue s.queues service q → runs q ≡ has_running s service → (b : Service) → has_running t b ≡ has_running s b
same_running s t service q is same b = elim (cases_Bool (is_service service b)) [
  | inl y ↦ rw (is, same_service service b y, queue_itself s.queues service q) same
  | inr n ↦ rw (is, queue_there s.queues service b q n) refl
]

-- stages
waits_rests : (stage : Stage) → is_waiting stage ≡ true → is_running stage ≡ false
waits_rests Waiting waits = refl
waits_rests Running waits = absurd (false≢true waits)
waits_rests Ready waits = refl

ready_rests : (stage : Stage) → is_ready stage ≡ true → is_running stage ≡ true → ⊥
ready_rests Waiting ready runs_ = false≢true ready
ready_rests Running ready runs_ = false≢true ready
ready_rests Ready ready runs_ = false≢true runs_

-- the card reader: it waits behind a begin exactly where the command goes on
begin_awaits : (slot : Slot) (ask : CardAsk) → is_awaited slot ≡ false → is_awaited (card_reader.row_of slot (card_event.Begin ask)).next ≡ is_none (card_says (card_reader.row_of slot (card_event.Begin ask)).effect).result
begin_awaits empty (card_ask.Read asked) none = refl
begin_awaits (awaited before) (card_ask.Read asked) none = refl
begin_awaits (inside tracks) (card_ask.Read asked) none = refl
begin_awaits at_exit (card_ask.Read asked) none = refl
begin_awaits empty card_ask.Move none = refl
begin_awaits (awaited before) card_ask.Move none = absurd (false≢true (sym none))
begin_awaits (inside tracks) card_ask.Move none = refl
begin_awaits at_exit card_ask.Move none = refl
begin_awaits empty card_ask.Reset none = refl
begin_awaits (awaited before) card_ask.Reset none = absurd (false≢true (sym none))
begin_awaits (inside tracks) card_ask.Reset none = refl
begin_awaits at_exit card_ask.Reset none = refl

-- and behind a touch where it waited, and the command goes on
abbrev IsTouch : CardEvent → Type 0
IsTouch (card_event.Begin ask) = ⊥
IsTouch card_event.Stop = ⊥
IsTouch other = Unit {0}

touch_awaits : (slot : Slot) (event : CardEvent) → IsTouch event → is_awaited (card_reader.row_of slot event).next ≡ (is_awaited slot && is_none (card_says (card_reader.row_of slot event).effect).result)
touch_awaits slot (card_event.Begin ask) is = absurd is
touch_awaits slot card_event.Stop is = absurd is
touch_awaits empty (card_event.Inserted tracks) is = refl
touch_awaits (awaited before) (card_event.Inserted tracks) is = refl
touch_awaits (inside before) (card_event.Inserted tracks) is = refl
touch_awaits at_exit (card_event.Inserted tracks) is = refl
touch_awaits empty card_event.Removed is = refl
touch_awaits (awaited before) card_event.Removed is = refl
touch_awaits (inside before) card_event.Removed is = refl
touch_awaits at_exit card_event.Removed is = refl
touch_awaits empty card_event.Fault is = refl
touch_awaits (awaited before) card_event.Fault is = refl
touch_awaits (inside before) card_event.Fault is = refl
touch_awaits at_exit card_event.Fault is = refl

stop_awaits : (slot : Slot) → is_awaited (card_reader.row_of slot card_event.Stop).next ≡ false
stop_awaits empty = refl
stop_awaits (awaited before) = refl
stop_awaits (inside before) = refl
stop_awaits at_exit = refl

-- the keyboard
abbrev IsTap : KeyEvent → Type 0
IsTap (key_event.Begin ask) = ⊥
IsTap key_event.Stop = ⊥
IsTap other = Unit {0}

behind_ends : (ask : EntryAsk) (key : KeyName) (digits : List KeyName) (o : Option (List ℕ))
    → is_some (keyboard.behind_key ask key digits o).next ≡ is_none (keyboard_says (keyboard.behind_key ask key digits o).effect).result
behind_ends ask key digits None = refl
behind_ends ask key digits (Some code) = refl

key_ends : (key : KeyName) (e : Entry) → is_some (keyboard.key_row key e).next ≡ is_none (keyboard_says (keyboard.key_row key e).effect).result
key_ends key e = go (is_ignored key e)
  where
    go : (b : Bool) → is_some (cond {A = keyboard.Row} b (keyboard.row keyboard.nothing (Some e)) (keyboard.behind_key e.ask key (typed key e.digits) (completion e.ask key (typed key e.digits)))).next
        ≡ is_none (keyboard_says (cond {A = keyboard.Row} b (keyboard.row keyboard.nothing (Some e)) (keyboard.behind_key e.ask key (typed key e.digits) (completion e.ask key (typed key e.digits)))).effect).result
    go true = refl
    go false = behind_ends e.ask key (typed key e.digits) (completion e.ask key (typed key e.digits))

tap_ends : (before : Option Entry) (event : KeyEvent) → IsTap event → is_some (keyboard.row_of before event).next ≡ (is_some before && is_none (keyboard_says (keyboard.row_of before event).effect).result)
tap_ends before (key_event.Begin ask) is = absurd is
tap_ends None key_event.Stop is = absurd is
tap_ends (Some e) key_event.Stop is = absurd is
tap_ends None (key_event.Key key) is = refl
tap_ends (Some e) (key_event.Key key) is = key_ends key e
tap_ends None key_event.Fault is = refl
tap_ends (Some e) key_event.Fault is = refl

stop_ends : (before : Option Entry) → is_some (keyboard.row_of before key_event.Stop).next ≡ false
stop_ends None = refl
stop_ends (Some e) = refl

begin_enters : (before : Option Entry) (ask : EntryAsk) → is_some (keyboard.row_of before (key_event.Begin ask)).next ≡ is_none (keyboard_says (keyboard.row_of before (key_event.Begin ask)).effect).result
begin_enters None ask = refl
begin_enters (Some e) ask = refl

and_true : (b : Bool) → (b && true) ≡ b
and_true true = refl
and_true false = refl

-- what a Cancel stops doesn't run
stop_running : (a : Command Job) → is_running (stop a).stage ≡ is_running a.stage
stop_running a = go (is_waiting a.stage && a.marked) refl
  where
    go : (b : Bool) → (is_waiting a.stage && a.marked) ≡ b → is_running (cond b (with_result (plain Canceled) a) a).stage ≡ is_running a.stage
    go true is = sym (waits_rests a.stage (and_parts _ _ is).0)
    go false is = refl

stopped_running : (client : ClientId) (ids : Ids) (q : List (Command Job)) → runs (stopped q client ids) ≡ runs q
stopped_running client ids q =
    runs_map stop (canceled q client ids) (λ k d within. stop_running (get_or (canceled q client ids) k d)) ∙ runs_map (λ a. mark (is_named client ids a && not (is_ready a.stage)) a) q (λ k d within. refl)

-- a command that hears its device runs on exactly where it has no result
saying_runs : (result : Option Outcome) (a : Command Job) → is_running (with_saying result a).stage ≡ is_none result
saying_runs None a = refl
saying_runs (Some result) a = refl

pub no_order : (o : Open) → is_ordered o ≡ false → o ≡ No
no_order No none = refl
no_order (Written kind counts) none = absurd (false≢true (sym none))
no_order (Acted kind moved diverted broke) none = absurd (false≢true (sym none))

closed : (o : Open) → o ≡ No → is_ordered o ≡ true → ⊥
closed o none is = let e = rw none at is in false≢true e

-- an order is open in no other case of the work than that of the open order
pub other_case : (s : State) (case : working.Case) → case_of s Cash ≡ case → (working.order ≡ case → ⊥) → s.seen.guard.open_order ≡ No
other_case s case is other = no_order s.seen.guard.open_order (by_order (is_ordered s.seen.guard.open_order) _ is)
  where
    by_order : (b : Bool) (other_ : working.Case) → cond {A = working.Case} b working.order other_ ≡ case → b ≡ false
    by_order true other_ e = absurd (other e)
    by_order false other_ e = refl

not_stop : working.order ≡ working.stop → ⊥
not_stop e = cc

pub not_begin : working.order ≡ working.begin → ⊥
not_begin e = cc

-- the calls of the guard that are no step of a plan leave the open order
life_order : (s : State) (ending : Option Ending) (next : Seen) → Expires s ending next → next.guard.open_order ≡ s.seen.guard.open_order
life_order s ending next (over now is) = ap (λ (v : View). v.open_order) is.guard_is
life_order s ending next (unended now is) = ap (λ (v : View). v.open_order) is.becomes.guard_is

nonce_order : (s : State) (ask : Ask) (result : Outcome) (next : Seen) (moment : Moment) → NonceCommand s ask result next moment → next.guard.open_order ≡ s.seen.guard.open_order
nonce_order s ask result next moment (refused asks unfit) = refl
nonce_order s ask result next moment (issued now fit is) = ap (λ (v : View). v.open_order) is.guard_is
nonce_order s ask result next moment (unissued now fit is) = ap (λ (v : View). v.open_order) is.becomes.guard_is
nonce_order s ask result next moment (cleared_ now fit live is) = ap (λ (v : View). v.open_order) is.guard_is
nonce_order s ask result next moment (uncleared now fit live is) = ap (λ (v : View). v.open_order) is.becomes.guard_is
nonce_order s ask result next moment (none_to_clear fit dead) = refl

-- a nonce is issued no later than now
nonce_moment : (s : State) (ask : Ask) (result : Outcome) (next : Seen) (moment : Moment) → NonceCommand s ask result next moment → s.issued.0 ≤ s.now.0 → moment.0 ≤ s.now.0
nonce_moment s ask result next moment (refused asks unfit) before = before
nonce_moment s ask result next moment (issued now fit is) before = omega arith
nonce_moment s ask result next moment (unissued now fit is) before = before
nonce_moment s ask result next moment (cleared_ now fit live is) before = before
nonce_moment s ask result next moment (uncleared now fit live is) before = before
nonce_moment s ask result next moment (none_to_clear fit dead) before = before

-- of the services, one alone is asked these
pub asked_of_cash : (service : Service) (line : Line) (ask : CashAsk) → MayAsk service line (cash ask) → service ≡ Cash
asked_of_cash Publisher line ask may = absurd may
asked_of_cash Card Nonce ask may = absurd may
asked_of_cash Card Device ask may = absurd may
asked_of_cash Keys Nonce ask may = absurd may
asked_of_cash Keys Device ask may = absurd may
asked_of_cash Cash line ask may = refl

pub asked_of_card : (service : Service) (line : Line) (ask : CardAsk) → MayAsk service line (card ask) → service ≡ Card
asked_of_card Publisher line ask may = absurd may
asked_of_card Card line ask may = refl
asked_of_card Keys Nonce ask may = absurd may
asked_of_card Keys Device ask may = absurd may
asked_of_card Cash Nonce ask may = absurd may
asked_of_card Cash Device ask may = absurd may

pub asked_of_keys : (service : Service) (line : Line) (ask : EntryAsk) → MayAsk service line (entry ask) → service ≡ Keys
asked_of_keys Publisher line ask may = absurd may
asked_of_keys Card Nonce ask may = absurd may
asked_of_keys Card Device ask may = absurd may
asked_of_keys Keys line ask may = refl
asked_of_keys Cash Nonce ask may = absurd may
asked_of_keys Cash Device ask may = absurd may

-- a state whose queue of one service is changed beside its running command, and the frames
beside : (s t : State) (service : Service) (q : List (Command Job)) → t.boot ≡ s.boot → t.slot ≡ s.slot → t.keypad ≡ s.keypad → t.seen.guard.open_order ≡ s.seen.guard.open_order → t.issued.0 ≤ t.now.0
    → t.queues ≡ with_queue s.queues service q → runs q ≡ has_running s service → IsStanding s → IsStanding t
beside s t service q boot slot keypad order moment is same h = aside s t (record { boot = boot; slot = slot; keypad = keypad; order = order; moment = moment; running = same_running s t service q is same }) h

apart_from : (s t : State) → t.boot ≡ s.boot → t.slot ≡ s.slot → t.keypad ≡ s.keypad → t.seen.guard.open_order ≡ s.seen.guard.open_order → t.issued.0 ≤ t.now.0 → t.queues ≡ s.queues → IsStanding s → IsStanding t
apart_from s t boot slot keypad order moment is h = aside s t (record { boot = boot; slot = slot; keypad = keypad; order = order; moment = moment; running = λ b. rw is refl }) h

takes_notes : (s : State) (told_ : Answer) (new : State) → TakesNotes s told_ new → IsStanding s → IsStanding new
takes_notes s told_ new (shut closed_) h = h
takes_notes s told_ new (took moved next open_ takes) h = apart_from s _ refl refl refl (ap (λ (v : View). v.open_order) takes.reported.same) h.issued refl h
takes_notes s told_ new (failed moved next open_ takes) h = apart_from s _ refl refl refl (ap (λ (v : View). v.open_order) takes.reported.same) h.issued refl h

module _ (s new : State) (machine : IsMachine s) (h : IsStanding s) where
  -- a command that waits has its result
  waiting_done : (service : Service) (p : Command Job → Bool) (a : Command Job) → find p (queue_at s service) ≡ Some a → is_waiting a.stage ≡ true → (result : Outcome) → IsStanding (resulting s service a result)
  waiting_done service p a found waits result =
      beside s (resulting s service a result) service (changed (with_result result) a (queue_at s service)) refl refl refl refl h.issued refl
      (runs_beside (with_result result) p a (queue_at s service) found (machine.queues service).ids (sym (waits_rests a.stage waits))) h

  works_on_plan : WorksOnPlan s new → IsStanding new
  works_on_plan is =
      let f = with_went is.left (is.command.job.ended_nonce || has_ended s.seen is.next) is.went in
      rw (is.is) (record {
        ordered = λ up open_now. runs_changed f (λ b. is_running b.stage) is.command (queue_at s Cash) is.runs (machine.queues Cash).ids
            (others_rest (λ b. is_running b.stage) (queue_at s Cash) is.command is.runs (found_passes (λ (b : Command Job). is_running b.stage) (queue_at s Cash) is.command is.runs) (machine.queues Cash).running)
            ∙ went_runs is.went _ is.works open_now;
        devices = record { slot = h.devices.slot; keypad = h.devices.keypad };
        issued = h.issued;
      })
    where
      went_runs : (went : Went) (b : Bool) → Works s.seen is.plan is.next is.left went → is_ordered is.next.guard.open_order ≡ true → is_running (with_went is.left b went is.command).stage ≡ true
      went_runs more b works open_now = refl
      went_runs (over_ answer) b works open_now = absurd (closed is.next.guard.open_order (work-over s.seen is.plan is.next is.left answer works) open_now)

  ends_life : EndsLife s new → IsStanding new
  ends_life is = rw (is.is) (by_frame is.frame)
    where
      by_frame : (frame : Option (List ℕ)) → IsStanding (record (announced s Cash frame) { seen = is.next })
      by_frame None = apart_from s _ refl refl refl (life_order s is.ending is.next is.expires) h.issued refl h
      by_frame (Some frame) = apart_from s _ refl refl refl (life_order s is.ending is.next is.expires) h.issued refl h

  answers_first : (service : Service) → AnswersFirst s service new → IsStanding new
  answers_first service is = rw (is.is) (behind is.before)
    where
      keeps_running : runs (without (queue_at s service) (ticket_of is.command)) ≡ runs (queue_at s service)
      keeps_running =
          let alone = only_one (λ b. is_ready b.stage) (queue_at s service) is.command is.first (machine.queues service).ids in
          let ready = found_passes (λ (b : Command Job). is_ready b.stage) (queue_at s service) is.command is.first in
          runs_filter (λ b. not (is_at (ticket_of is.command) b)) (queue_at s service) (each (λ b. is_at (ticket_of is.command) b ≡ true → b ≡ is.command) (λ b. is_running b.stage ≡ true → not (is_at (ticket_of is.command) b) ≡ true)
          (λ b it runs_. elim (cases_Bool (is_at (ticket_of is.command) b)) [
            | inl y ↦ absurd (ready_rests is.command.stage ready (subst (λ (c : Command Job). is_running c.stage ≡ true) (it y) runs_))
            | inr n ↦ rw n refl
          ]) (queue_at s service) alone)

      behind : (before : Option (List ℕ)) → IsStanding (with_queue_at (sent (announced s service before) service is.command.client (is.last ∷ [])) service (without (queue_at s service) (ticket_of is.command)))
      behind None = beside s _ service (without (queue_at s service) (ticket_of is.command)) refl refl refl refl h.issued refl keeps_running h
      behind (Some frame) = beside s _ service (without (queue_at s service) (ticket_of is.command)) refl refl refl refl h.issued refl keeps_running h

  takes_nonce : TakesNonce s new → IsStanding new
  takes_nonce is = by_time (is_due s.now is.command) is.is
    where
      waits : is_waiting is.command.stage ≡ true
      waits = (and_parts _ _ (found_passes (waits_on Nonce) (queue_at s Cash) is.command is.first)).0

      by_time : (b : Bool) → MatchBool b (new ≡ resulting s Cash is.command (plain TimeOut)) (DoesNonce s is.command new) → IsStanding new
      by_time true late = rw late (waiting_done Cash (waits_on Nonce) is.command is.first waits (plain TimeOut))
      by_time false does =
          let t = waiting_done Cash (waits_on Nonce) is.command is.first waits does.result in
          rw (does.is) (apart_from (resulting s Cash is.command does.result) _ refl refl refl (nonce_order s is.command.job.ask does.result does.next does.issued does.done)
          (nonce_moment s is.command.job.ask does.result does.next does.issued does.done h.issued) refl t)

  is_too_late : (service : Service) → IsTooLate s service new → IsStanding new
  is_too_late service is =
      let passes = and_parts _ _ (found_passes (is_overdue s) (queue_at s service) is.command is.first) in
      rw (is.is) (waiting_done service (is_overdue s) is.command is.first (and_parts _ _ passes.0).0 (plain TimeOut))

  stops : (service : Service) → case_of s service ≡ working.stop → Stops s service new → IsStanding new
  stops service case is = rw (is.is) (of_device service refl case)
    where
      result : Outcome
      result = plain (cond is.command.marked Canceled TimeOut)

      none_runs_then : runs (changed (with_result result) is.command (queue_at s service)) ≡ false
      none_runs_then =
          let passes = and_parts _ _ (found_passes (is_stopped s) (queue_at s service) is.command is.first) in
          runs_changed (with_result result) (is_stopped s) is.command (queue_at s service) is.first (machine.queues service).ids
          (others_rest (is_stopped s) (queue_at s service) is.command is.first passes.0 (machine.queues service).running)

      of_device : (device : Service) → service ≡ device → case_of s device ≡ working.stop → IsStanding (device_stopped (resulting s service is.command result) device)
      of_device Publisher at is_case = rw at (record { ordered = h.ordered; devices = record { slot = h.devices.slot; keypad = h.devices.keypad }; issued = h.issued })
      of_device Card at is_case = rw at (record { ordered = h.ordered; devices = record { slot = stop_awaits s.slot ∙ sym (subst (λ b. runs (changed (with_result result) is.command (queue_at s b)) ≡ false) at none_runs_then); keypad = h.devices.keypad }; issued = h.issued })
      of_device Keys at is_case = rw at (record { ordered = h.ordered; devices = record { slot = h.devices.slot; keypad = stop_ends s.keypad ∙ sym (subst (λ b. runs (changed (with_result result) is.command (queue_at s b)) ≡ false) at none_runs_then) }; issued = h.issued })
      of_device Cash at is_case = rw at (record { ordered = λ up open_now. absurd (closed s.seen.guard.open_order (other_case s working.stop is_case not_stop) open_now); devices = record { slot = h.devices.slot; keypad = h.devices.keypad }; issued = h.issued })

  begins_cash : (a : Command Job) → s.seen.guard.open_order ≡ No → (ask : CashAsk) → BeginsCash s Cash a ask new → IsStanding new
  begins_cash a none ask is = rw (is.is) (record {
    ordered = λ up open_now. absurd (closed is.next.guard.open_order (begins_closed s.seen s.exchange ask is.next is.exchange is.start none is.begins) open_now);
    devices = record { slot = h.devices.slot; keypad = h.devices.keypad };
    issued = h.issued;
  })

  begins_card : (a : Command Job) → find (waits_on Device) (queue_at s Card) ≡ Some a → running_at s Card ≡ None → (ask : CardAsk) → BeginsAs (card ask) s Card a new → IsStanding new
  begins_card a found idle ask is =
      let said = (card_says (card_reader.row_of s.slot (card_event.Begin ask)).effect).result in
      rw (is.is) (record {
        ordered = h.ordered;
        devices = record {
          slot = begin_awaits s.slot ask (h.devices.slot ∙ none_runs (queue_at s Card) idle)
              ∙ sym (runs_changed (with_saying said) (waits_on Device) a (queue_at s Card) found (machine.queues Card).ids (all_rest (queue_at s Card) a idle) ∙ saying_runs said a);
          keypad = h.devices.keypad;
        };
        issued = h.issued;
      })

  begins_keys : (a : Command Job) → find (waits_on Device) (queue_at s Keys) ≡ Some a → running_at s Keys ≡ None → (ask : EntryAsk) → BeginsAs (entry ask) s Keys a new → IsStanding new
  begins_keys a found idle ask is =
      let said = (keyboard_says (keyboard.row_of s.keypad (key_event.Begin ask)).effect).result in
      rw (is.is) (record {
        ordered = h.ordered;
        devices = record {
          slot = h.devices.slot;
          keypad = begin_enters s.keypad ask
              ∙ sym (runs_changed (with_saying said) (waits_on Device) a (queue_at s Keys) found (machine.queues Keys).ids (all_rest (queue_at s Keys) a idle) ∙ saying_runs said a);
        };
        issued = h.issued;
      })

  -- a command that begins asks what its service does
  begins_as : (service : Service) (a : Command Job) → find (waits_on Device) (queue_at s service) ≡ Some a → running_at s service ≡ None → case_of s service ≡ working.begin
      → (ask : Ask) → MayAsk service a.line ask → BeginsAs ask s service a new → IsStanding new
  begins_as service a found idle case bad may is =
      rw is (waiting_done service (waits_on Device) a found (and_parts _ _ (found_passes (waits_on Device) (queue_at s service) a found)).0 (plain InvalidData))
  begins_as service a found idle case (cash ask) may is =
      let at = asked_of_cash service a.line ask may in
      begins_cash a (other_case s working.begin (subst (λ b. case_of s b ≡ working.begin) at case) not_begin) ask (subst (λ b. BeginsCash s b a ask new) at is)
  begins_as service a found idle case (card ask) may is =
      let at = asked_of_card service a.line ask may in
      begins_card a (subst (λ b. find (waits_on Device) (queue_at s b) ≡ Some a) at found) (subst (λ b. running_at s b ≡ None) at idle) ask (subst (λ b. BeginsAs (card ask) s b a new) at is)
  begins_as service a found idle case (entry ask) may is =
      let at = asked_of_keys service a.line ask may in
      begins_keys a (subst (λ b. find (waits_on Device) (queue_at s b) ≡ Some a) at found) (subst (λ b. running_at s b ≡ None) at idle) ask (subst (λ b. BeginsAs (entry ask) s b a new) at is)
  begins_as service a found idle case issue may is = absurd is
  begins_as service a found idle case clear may is = absurd is

  does : ((service : Service) → All (IsFitting service) (queue_at s service)) → (case : working.Case) (service : Service) → case_of s service ≡ case → Does case s service new → IsStanding new
  does fit working.order service at is = works_on_plan is
  does fit working.expire service at is = ends_life is
  does fit working.answer service at is = answers_first service is
  does fit working.nonce service at is = takes_nonce is
  does fit working.overdue service at is = is_too_late service is
  does fit working.stop service at is = stops service at is
  does fit working.go_on service at is = works_on_plan is
  does fit working.begin service at is =
      begins_as service is.command is.first is.alone at is.command.job.ask (found_all (IsFitting service) (waits_on Device) (queue_at s service) is.command is.first (fit service)) is.begins
  does fit working.rest service at is = rw is h

  card_heard : (event : CardEvent) → IsTouch event → (o : Option (Command Job)) → running_at s Card ≡ o
      → IsHeard (with_slot s (card_reader.row_of s.slot event).next) Card o (card_says (card_reader.row_of s.slot event).effect) new → IsStanding new
  card_heard event touch_ None none is = rw is (record {
    ordered = h.ordered;
    devices = record {
      slot =
          let rests : is_awaited s.slot ≡ false = h.devices.slot ∙ none_runs (queue_at s Card) none in
          touch_awaits s.slot event touch_ ∙ ap (λ b. b && is_none (card_says (card_reader.row_of s.slot event).effect).result) rests ∙ sym (none_runs (queue_at s Card) none);
      keypad = h.devices.keypad;
    };
    issued = h.issued;
  })
  card_heard event touch_ (Some a) found is =
      let said = (card_says (card_reader.row_of s.slot event).effect).result in
      rw (is.is) (record {
        ordered = h.ordered;
        devices = record {
          slot =
              let waits : is_awaited s.slot ≡ true = h.devices.slot ∙ some_runs (queue_at s Card) a found in
              touch_awaits s.slot event touch_ ∙ ap (λ b. b && is_none said) waits
              ∙ sym (runs_changed (with_saying said) (λ b. is_running b.stage) a (queue_at s Card) found (machine.queues Card).ids
              (others_rest (λ b. is_running b.stage) (queue_at s Card) a found (found_passes (λ (b : Command Job). is_running b.stage) (queue_at s Card) a found) (machine.queues Card).running) ∙ saying_runs said a);
          keypad = h.devices.keypad;
        };
        issued = h.issued;
      })

  card_says_ : (event : CardEvent) → IsTouch event → (effect : card_reader.Effect) → (card_reader.row_of s.slot event).effect ≡ effect → CardSays (with_slot s (card_reader.row_of s.slot event).next) effect new → IsStanding new
  card_says_ event touch_ card_reader.removed at is = rw (is.2) (record {
    ordered = h.ordered;
    devices = record { slot = touch_awaits s.slot event touch_ ∙ ap (λ e. is_awaited s.slot && is_none (card_says e).result) at ∙ and_true (is_awaited s.slot) ∙ h.devices.slot; keypad = h.devices.keypad };
    issued = h.issued;
  })
  card_says_ event touch_ card_reader.nothing at is = card_heard event touch_ (running_at s Card) refl (subst (λ e. IsHeard (with_slot s (card_reader.row_of s.slot event).next) Card (running_at s Card) (card_says e) new) (sym at) is)
  card_says_ event touch_ card_reader.ask_insert at is = card_heard event touch_ (running_at s Card) refl (subst (λ e. IsHeard (with_slot s (card_reader.row_of s.slot event).next) Card (running_at s Card) (card_says e) new) (sym at) is)
  card_says_ event touch_ (card_reader.inserted payload) at is = card_heard event touch_ (running_at s Card) refl (subst (λ e. IsHeard (with_slot s (card_reader.row_of s.slot event).next) Card (running_at s Card) (card_says e) new) (sym at) is)
  card_says_ event touch_ (card_reader.done code payload) at is = card_heard event touch_ (running_at s Card) refl (subst (λ e. IsHeard (with_slot s (card_reader.row_of s.slot event).next) Card (running_at s Card) (card_says e) new) (sym at) is)

  keys_heard : (event : KeyEvent) → IsTap event → (o : Option (Command Job)) → running_at s Keys ≡ o
      → IsHeard (with_keypad s (keyboard.row_of s.keypad event).next) Keys o (keyboard_says (keyboard.row_of s.keypad event).effect) new → IsStanding new
  keys_heard event tap None none is = rw is (record {
    ordered = h.ordered;
    devices = record {
      slot = h.devices.slot;
      keypad =
          let rests : is_some s.keypad ≡ false = h.devices.keypad ∙ none_runs (queue_at s Keys) none in
          tap_ends s.keypad event tap ∙ ap (λ b. b && is_none (keyboard_says (keyboard.row_of s.keypad event).effect).result) rests ∙ sym (none_runs (queue_at s Keys) none);
    };
    issued = h.issued;
  })
  keys_heard event tap (Some a) found is =
      let said = (keyboard_says (keyboard.row_of s.keypad event).effect).result in
      rw (is.is) (record {
        ordered = h.ordered;
        devices = record {
          slot = h.devices.slot;
          keypad =
              let enters : is_some s.keypad ≡ true = h.devices.keypad ∙ some_runs (queue_at s Keys) a found in
              tap_ends s.keypad event tap ∙ ap (λ b. b && is_none said) enters
              ∙ sym (runs_changed (with_saying said) (λ b. is_running b.stage) a (queue_at s Keys) found (machine.queues Keys).ids
              (others_rest (λ b. is_running b.stage) (queue_at s Keys) a found (found_passes (λ (b : Command Job). is_running b.stage) (queue_at s Keys) a found) (machine.queues Keys).running) ∙ saying_runs said a);
        };
        issued = h.issued;
      })

  touches : (touched : Touch) (told_ : Answer) → Touches s touched told_ new → IsStanding new
  touches (CardIn tracks) told_ is = card_says_ (card_event.Inserted tracks) tt (card_reader.row_of s.slot (card_event.Inserted tracks)).effect refl is.1
  touches CardTaken told_ is = card_says_ card_event.Removed tt (card_reader.row_of s.slot card_event.Removed).effect refl is.1
  touches CardFault told_ is = card_says_ card_event.Fault tt (card_reader.row_of s.slot card_event.Fault).effect refl is.1
  touches (Key key) told_ is = keys_heard (key_event.Key key) tt (running_at s Keys) refl is.1
  touches KeyFault told_ is = keys_heard key_event.Fault tt (running_at s Keys) refl is.1
  touches NotesTaken told_ is = takes_notes s told_ new is h

  takes_on : (k : Connection) (c : envelope.Command) (known : Option Known) → TakesOn s k c known new → IsStanding new
  takes_on k c None is = rw (is.is) (beside s _ k.service (done_at_once s k c).queue refl refl refl refl h.issued refl at_once h)
    where
      if_named : (ids : Ids) (b : Bool)
          → runs (cond {A = AtOnce} b (record { result = success nothing; queue = stopped (queue_at s k.service) k.client ids }) (record { result = error NoMatchingRequestIds; queue = queue_at s k.service })).queue ≡ has_running s k.service
      if_named ids true = stopped_running k.client ids (queue_at s k.service)
      if_named ids false = refl

      canceling_all : (ids : Result (Option (List ℕ)) Shape) → runs (canceling (queue_at s k.service) k.client ids).queue ≡ has_running s k.service
      canceling_all (Err shape) = refl
      canceling_all (Ok ids) = if_named (ids_of ids) (list_any (is_named k.client (ids_of ids)) (queue_at s k.service))

      at_once : runs (done_at_once s k c).queue ≡ has_running s k.service
      at_once = by_command s k c.payload (λ did. runs did.queue ≡ has_running s k.service) (immediate_of k.service c.name) (λ is. canceling_all (request_ids c.payload)) refl
  takes_on k c (Some known) is = of_room (is_crowded (queue_at s k.service) k.client) is
    where
      of_room : (b : Bool) → MatchBool b (Refuses s k (Some c.id) (Some c.name) TooManyRequests new) (Accepts s k known c new) → IsStanding new
      of_room true is = rw (is.is) (apart_from s _ refl refl refl refl h.issued refl h)
      of_room false is = rw (is.is) (beside s _ k.service _ refl refl refl refl h.issued refl (runs_push (queue_at s k.service) _ refl) h)

  takes : (k : Connection) (says : Result envelope.Command Refuse) → TakesText s k says new → IsStanding new
  takes k (Err refuse) is = rw (is.is) (apart_from s _ refl refl refl refl h.issued refl h)
  takes k (Ok c) is = of_id (is_wrong_id (pending_in k.client (queue_at s k.service)) c.id) is
    where
      of_id : (b : Bool) → MatchBool b (Refuses s k (Some c.id) (Some c.name) InvalidRequestId new) (TakesOn s k c (known_of k.service c.name) new) → IsStanding new
      of_id true is = rw (is.is) (apart_from s _ refl refl refl refl h.issued refl h)
      of_id false is = takes_on k c (known_of k.service c.name) is

-- a later moment
later : (s : State) (now : Moment) → IsStanding s → IsStanding (at_moment s now)
later s now h = record {
  ordered = h.ordered;
  devices = record { slot = h.devices.slot; keypad = h.devices.keypad };
  issued = not_before (nat_le s.now.0 now.0) refl;
}
  where
    not_before : (b : Bool) → nat_le s.now.0 now.0 ≡ b → s.issued.0 ≤ (cond b now s.now).0
    not_before true e = let l : s.now.0 ≤ now.0 = leb-true _ _ e in let i = h.issued in omega (arith, l, i)
    not_before false e = h.issued

posts : (old : State) (pass : Pass) (text : List ℕ) (now : Moment) (new : State) → Posts old pass text now new → IsMachine old → IsStanding old → IsStanding new
posts old pass text now new is machine h = go (connection_of old pass) is
  where
    go : (o : Option Connection) → MatchOption o (new ≡ old) (λ k. TakesText (at_moment old now) k (command_in text) new) → IsStanding new
    go None is = rw is h
    go (Some k) is = takes (at_moment old now) new (same_machine old (at_moment old now) refl refl refl machine) (later old now h) k (command_in text) is

hands : (old : State) (pass : Pass) (frames : List (List ℕ)) (new : State) → HandsOver old pass frames new → IsStanding old → IsStanding new
hands old pass frames new is h = go (connection_of old pass) is
  where
    go : (o : Option Connection) → MatchOption o ((frames ≡ []) × (new ≡ old)) (λ k. (frames ≡ k.waiting) × (new ≡ record old { connections = map (without_mail k.client) old.connections })) → IsStanding new
    go None is = rw (is.1) h
    go (Some k) is = rw (is.1) (apart_from old _ refl refl refl refl h.issued refl h)

leaves_at : (old : State) (k : Connection) → IsStanding old → IsStanding (left old k)
leaves_at old k h =
    let keep = λ (a : Command Job). not (is_of k.client a) || is_running a.stage in
    let q = queue_at old k.service in
    beside old (left old k) k.service (without_client q k.client) refl refl refl refl h.issued refl
    (runs_map (λ a. mark (is_of k.client a) a) (filter keep q) (λ i d within. refl) ∙ runs_filter keep q (λ i d within runs_. or_right (not (is_of k.client (get_or q i d))) (is_running (get_or q i d).stage) runs_)) h

leaves : (old : State) (pass : Pass) (new : State) → DropsClient old pass new → IsStanding old → IsStanding new
leaves old pass new is h = go (connection_of old pass) is
  where
    go : (o : Option Connection) → MatchOption o (new ≡ old) (λ k. new ≡ left old k) → IsStanding new
    go None is = rw is h
    go (Some k) is = rw is (leaves_at old k h)

-- a machine with no connection and no command
pub bare_stands : (seen : Seen) (life boot : ℕ) → (boot ≢ 0 → seen.guard.open_order ≡ No) → IsStanding (bare seen life boot)
bare_stands seen life boot none = record {
  ordered = λ up open_now. absurd (closed seen.guard.open_order (none up) open_now);
  devices = record { slot = refl; keypad = refl };
  issued = omega arith;
}

gone_stands : (seen : Seen) (life : ℕ) → IsStanding (bare seen life 0)
gone_stands seen life = bare_stands seen life 0 (λ up. absurd (up refl))

stands_by : (old : State) (event : Event) (told_ : Answer) (new : State) → Happens old event told_ new → IsMachine old → ((service : Service) → All (IsFitting service) (queue_at old service)) → IsStanding old → IsStanding new
stands_by old (join service) (joined pass) new is machine fit h = rw (is.is) (apart_from old _ refl refl refl refl h.issued refl h)
stands_by old (join service) full new is machine fit h = rw (is.1) h
stands_by old (post pass text now) done new is machine fit h = posts old pass text now new is machine h
stands_by old (touch it) told_ new is machine fit h = touches old new machine h it told_ is
stands_by old (work service now) told_ new is machine fit h =
    does (at_moment old now) new (same_machine old (at_moment old now) refl refl refl machine) (later old now h) fit (case_of (at_moment old now) service) service refl is.1
stands_by old (outbox pass) (handed frames) new is machine fit h = hands old pass frames new is h
stands_by old (leave pass) done new is machine fit h = leaves old pass new is h
stands_by old restart restarted new is machine fit h = rw (is.is) (bare_stands is.next old.life (length is.next.guard.records) (λ up. ap (λ (v : View). v.open_order) is.reboots.becomes.guard_is))
stands_by old restart unrestarted new is machine fit h = rw (is.is) (gone_stands is.next old.life)
stands_by old end_ ended new is machine fit h = rw is (gone_stands old.seen old.life)
stands_by old finish ended new is machine fit h = rw (is.is) (gone_stands is.next old.life)
stands_by old finish unsettled new is machine fit h = rw (is.is) (gone_stands is.next old.life)
stands_by old event told_ new is machine fit h = absurd is

pub stands : (old new : State) (event : Event) (told_ : Answer) → IsMachine old → ((service : Service) → All (IsFitting service) (queue_at old service)) → Step old event told_ new → IsStanding old → IsStanding new
stands old new event told_ machine fit (happens up is) h = stands_by old event told_ new is machine fit h
stands old new event told_ machine fit (wanting is_memory wants) h =
    let u = unmoved old new event wants in
    rw (u.is) (apart_from old _ refl refl refl (ap (λ (v : View). v.open_order) u.becomes.guard_is) h.issued refl h)
