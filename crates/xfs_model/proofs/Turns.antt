-- What a step makes of each pending command: whatever holds of the commands before it, each command after it came of one of them in one of these ways, or was accepted.
use Rattle.std.proofs.Common.{◌≡◌, ℕ, ◌&&◌, ◌||◌, not, Bool, true, false, cond, MatchBool, MatchOption, List, [], ◌∷◌, Option, None, Some, Result, Ok, Err, length, get_or, map, filter, find, All, AllPairs, refl, ap, sym, subst, ◌∙◌, inl, inr}
use Rattle.std.specs.List.{list_any}
use Rattle.std.proofs.lemmas.Bool.{cases_Bool, and_parts, false≢true}
use Rattle.std.proofs.lemmas.List.Elements.{All-filter, All-map, All-nil, All-push}
use Rattle.serde_json.specs.Data.{Data}
use Rattle.xfs_base.specs.declared.moment.ClientId.{ClientId}
use Rattle.xfs_base.specs.declared.moment.Moment.{Moment}
use Rattle.xfs_base.specs.declared.moment.Service.{Service}
use Rattle.xfs_base.specs.declared.moment.Service.TheVariants.{Publisher, Card, Keys, Cash}
use Rattle.xfs_card.specs.Table as card_reader
use Rattle.xfs_card.specs.declared.ask.CardAsk.{CardAsk}
use Rattle.xfs_card.specs.declared.state.CardEvent.{CardEvent}
use Rattle.xfs_card.specs.declared.state.CardEvent.TheVariants as card_event
use Rattle.xfs_common.specs.Cancel.{request_ids}
use Rattle.xfs_common.specs.Payloads.{nothing}
use Rattle.xfs_common.specs.declared.error.ErrorCode.TheVariants.{NoMatchingRequestIds}
use Rattle.xfs_conversation.specs.Pending.{is_wrong_id}
use Rattle.xfs_dispenser.specs.Answers.{Start, Went}
use Rattle.xfs_dispenser.specs.Begins.{Begins}
use Rattle.xfs_dispenser.specs.Seen.{Seen}
use Rattle.xfs_dispenser.specs.Steps.{Works}
use Rattle.xfs_dispenser.specs.declared.ask.CashAsk.{CashAsk}
use Rattle.xfs_dispenser.specs.declared.plan.Plan.{Plan}
use Rattle.xfs_envelope.specs.Commands.{command_in}
use Rattle.xfs_envelope.specs.Commands as envelope
use Rattle.xfs_envelope.specs.declared.code.Code.TheVariants.{Canceled, InvalidData, TimeOut}
use Rattle.xfs_envelope.specs.declared.code.Status.TheVariants.{InvalidRequestId, TooManyRequests}
use Rattle.xfs_envelope.specs.declared.command.Refuse.{Refuse}
use Rattle.xfs_guard.specs.declared.open.Open.TheVariants.{No}
use Rattle.xfs_json.specs.declared.members.Shape.{Shape}
use Rattle.xfs_keyboard.specs.Keyboard as keyboard
use Rattle.xfs_keyboard.specs.declared.ask.EntryAsk.{EntryAsk}
use Rattle.xfs_keyboard.specs.declared.state.KeyEvent.{KeyEvent}
use Rattle.xfs_keyboard.specs.declared.state.KeyEvent.TheVariants as key_event
use Rattle.xfs_mech.specs.Tracks.{CardTracks}
use Rattle.xfs_mech.specs.declared.key.KeyName.{KeyName}
use Rattle.xfs_mech.specs.declared.touch.Touch.{Touch}
use Rattle.xfs_mech.specs.declared.touch.Touch.TheVariants.{CardIn, CardTaken, CardFault, Key, KeyFault, NotesTaken}
use Rattle.xfs_queue.specs.declared.command.Command.{Command}
use Rattle.xfs_queue.specs.declared.command.Ids.{Ids}
use Rattle.xfs_queue.specs.declared.command.Line.{Line}
use Rattle.xfs_queue.specs.declared.command.Line.TheVariants.{Nonce, Device}
use Rattle.xfs_queue.specs.Commands.{is_at, is_due, is_of, is_ready, is_running, is_waiting, ticket_of, waits_on}
use Rattle.xfs_queue.specs.Queue.{IsQueue, canceled, is_named, mark, offered, without, without_client, is_crowded}
use Rattle.xfs_queue.proofs.Places.{AreApart}
use Rattle.xfs_model.specs.Cases.{AnswersFirst, BeginsAs, Does, DoesNonce, Stops, TakesNonce, WorksOnPlan, has_ended, resulting, with_start, with_went}
use Rattle.xfs_common.specs.Commands.{immediate_of}
use Rattle.xfs_model.specs.declared.known.Known.{Known}
use Rattle.xfs_model.specs.Commands.{Asks, known_of, line_of}
use Rattle.xfs_model.specs.Connections.{announced, connection_of, is_service, left, sent, with_queue_at, without_mail}
use Rattle.xfs_model.specs.Devices.{Hears, Saying, card_says, device_stopped, keyboard_says, with_keypad, with_saying, with_slot}
use Rattle.xfs_model.specs.Events.{Answer, Event, join, post, touch, work, outbox, leave, restart, end_, finish, joined, full, done, handed, restarted, unrestarted, ended, unsettled}
use Rattle.xfs_model.specs.Guards.{Expires, NonceCommand, cleared_, ended as over, issued, none_to_clear, refused, uncleared, unended, unissued}
use Rattle.xfs_model.specs.Immediate.{AtOnce, canceling, done_at_once, ids_of, stop, stopped}
use Rattle.xfs_model.specs.Kept.{IsMachine}
use Rattle.xfs_model.specs.Pendings.{pending_in}
use Rattle.xfs_model.specs.Posts.{Accepts, Refuses, TakesText, TakesOn, job_of}
use Rattle.xfs_model.specs.Results.{changed, error, plain, success, with_result}
use Rattle.xfs_model.specs.Sound.{IsFitting, MayAsk}
use Rattle.xfs_model.specs.State.{Ask, issue, clear, cash, card, entry, bad, Connection, Ending, Job, Outcome, Pass, Queues, State, bare, queue_at, queue_of, with_queue}
use Rattle.xfs_model.specs.Step.{Happens, HandsOver, DropsClient, Posts, Step, at_moment, happens, wanting}
use Rattle.xfs_model.specs.Touches.{CardSays, IsHeard, TakesNotes, Touches, TouchesCard, TouchesKeys, failed, running_at, shut, took}
use Rattle.xfs_model.specs.Work as working
use Rattle.xfs_model.specs.Work.{case_of, is_overdue, is_stopped}
use Rattle.xfs_model.proofs.Calls.{seen_stopped}
use Rattle.xfs_model.proofs.Caused.{only_one}
use Rattle.xfs_model.proofs.Changes.{each}
use Rattle.xfs_model.proofs.Lists.{found_passes, found_all}
use Rattle.xfs_model.proofs.Machines.{aside}
use Rattle.xfs_model.proofs.Queues.{queue_itself, queue_there, same_service}
use Rattle.xfs_model.proofs.Runnings.{OthersRest, all_rest, others_rest}
use Rattle.xfs_model.proofs.Standings.{asked_of_card, asked_of_cash, asked_of_keys, not_begin, other_case}
use Rattle.xfs_model.proofs.StillPlanned.{StillWorks, marked_still, missed_still, same_still, taken_still}
use Rattle.xfs_model.proofs.AtOnce.{by_command}
use Rattle.xfs_model.proofs.Wanting.{unmoved}

-- what a device says to a command in a step: as it begins, or as the world touches the device while it runs
pub data Speaks (s : State) (event : Event) (service : Service) (a : Command Job) : Saying → Type 0 where
  card_begins : is_waiting a.stage ≡ true → (ask : CardAsk) → Speaks s event service a (card_says (card_reader.row_of s.slot (card_event.Begin ask)).effect)
  keys_begin : is_waiting a.stage ≡ true → (ask : EntryAsk) → Speaks s event service a (keyboard_says (keyboard.row_of s.keypad (key_event.Begin ask)).effect)
  card_touched : service ≡ Card → is_running a.stage ≡ true → (touched : CardEvent) → (touched ≡ card_event.Fault → event ≡ touch CardFault) → Speaks s event service a (card_says (card_reader.row_of s.slot touched).effect)
  keys_touched : service ≡ Keys → is_running a.stage ≡ true → (touched : KeyEvent) → (touched ≡ key_event.Fault → event ≡ touch KeyFault) → Speaks s event service a (keyboard_says (keyboard.row_of s.keypad touched).effect)

-- a command of the dispenser that runs can still be worked on
abbrev pub StaysPlanned : State → State → Service → Command Job → Type 0
StaysPlanned s new service b = service ≡ Cash → is_running b.stage ≡ true → StillWorks s.seen.guard new.seen.guard

pub data Turn (s : State) (event : Event) (new : State) (P : Command Job → Type 0) (service : Service) : Command Job → Type 0 where
  stays : (a : Command Job) → P a → StaysPlanned s new service a → Turn s event new P service a
  marks : (a : Command Job) (holds : Bool) → P a → StaysPlanned s new service a → Turn s event new P service (mark holds a)
  accepted : (client : ClientId) (id : ℕ) (known : Known) (timeout : ℕ) (name : List ℕ) (payload : Data) (ask : Ask) → known_of service name ≡ Some known → Asks known payload ask
      → Turn s event new P service (offered client id (line_of known) timeout s.now (job_of name ask))
  stopped_waiting : (a : Command Job) (holds : Bool) → P a → is_waiting a.stage ≡ true → (mark holds a).marked ≡ true → Turn s event new P service (with_result (plain Canceled) (mark holds a))
  late : (a : Command Job) → P a → is_waiting a.stage ≡ true → is_due s.now a ≡ true → Turn s event new P service (with_result (plain TimeOut) a)
  stopped_running : (a : Command Job) → P a → is_running a.stage ≡ true → (a.marked || is_due s.now a) ≡ true → Turn s event new P service (with_result (plain (cond a.marked Canceled TimeOut)) a)
  nonce : (a : Command Job) → P a → is_waiting a.stage ≡ true → service ≡ Cash → (result : Outcome) → NonceCommand s a.job.ask result new.seen new.issued → Turn s event new P service (with_result result a)
  misasked : (a : Command Job) → P a → is_waiting a.stage ≡ true → a.job.ask ≡ bad → Turn s event new P service (with_result (plain InvalidData) a)
  begun : (a : Command Job) → P a → is_waiting a.stage ≡ true → s.seen.guard.open_order ≡ No → service ≡ Cash → (ask : CashAsk) → a.job.ask ≡ cash ask → (start : Start) → Begins s.seen s.exchange ask new.seen new.exchange start → Turn s event new P service (with_start start a)
  worked : (a : Command Job) → P a → is_running a.stage ≡ true → service ≡ Cash → (plan left : Plan) → a.job.plan ≡ Some plan → (went : Went) → Works s.seen plan new.seen left went
      → Turn s event new P service (with_went left (a.job.ended_nonce || has_ended s.seen new.seen) went a)
  heard : (a : Command Job) → P a → (service ≡ Cash → ⊥) → (saying : Saying) → Speaks s event service a saying → Turn s event new P service (with_saying saying.result a)

-- a change of the command that is found, and of no other
pub changed_all : (P X : Command Job → Type 0) (f : Command Job → Command Job) (p : Command Job → Bool) (a : Command Job) (q : List (Command Job)) → find p q ≡ Some a → AllPairs AreApart q
    → (P a → X (f a)) → ((b : Command Job) → is_at (ticket_of a) b ≡ false → P b → X b) → All P q → All X (changed f a q)
changed_all P X f p a q found apart here there all =
    let alone = only_one p q a found apart in
    All-map X (λ b. cond (is_at (ticket_of a) b) (f b) b) q (λ k d within. one (get_or q k d) (all k d within) (alone k d within))
  where
    one : (b : Command Job) → P b → (is_at (ticket_of a) b ≡ true → b ≡ a) → X (cond (is_at (ticket_of a) b) (f b) b)
    one b holds same = elim (cases_Bool (is_at (ticket_of a) b)) [
      | inl y ↦
          let it : b ≡ a = same y in
          rw (y, it) (here (rw it at holds))
      | inr n ↦ rw n (there b n holds)
    ]

on_line : (a : Command Job) (line : Line) → waits_on line a ≡ true → is_waiting a.stage ≡ true
on_line a line waits = (and_parts _ _ waits).0

-- what a device says isn't heard at the dispenser
card_elsewhere : (service : Service) (line : Line) (ask : CardAsk) → MayAsk service line (card ask) → service ≡ Cash → ⊥
card_elsewhere service line ask may at = let e : Card ≡ Cash = sym (asked_of_card service line ask may) ∙ at in cc

keys_elsewhere : (service : Service) (line : Line) (ask : EntryAsk) → MayAsk service line (entry ask) → service ≡ Cash → ⊥
keys_elsewhere service line ask may at = let e : Keys ≡ Cash = sym (asked_of_keys service line ask may) ∙ at in cc

card_not_cash : Card ≡ Cash → ⊥
card_not_cash e = cc

keys_not_cash : Keys ≡ Cash → ⊥
keys_not_cash e = cc

queues_stopped : (s : State) (service : Service) → (device_stopped s service).queues ≡ s.queues
queues_stopped s Publisher = refl
queues_stopped s Card = refl
queues_stopped s Keys = refl
queues_stopped s Cash = refl

no_fault_in : (tracks : CardTracks) → card_event.Inserted tracks ≡ card_event.Fault → ⊥
no_fault_in tracks e = cc

no_fault_out : card_event.Removed ≡ card_event.Fault → ⊥
no_fault_out e = cc

no_fault_key : (key : KeyName) → key_event.Key key ≡ key_event.Fault → ⊥
no_fault_key key e = cc

queues_announced : (s : State) (frame : Option (List ℕ)) → (announced s Cash frame).queues ≡ s.queues
queues_announced s None = refl
queues_announced s (Some frame) = refl

nonce_still : (s : State) (ask : Ask) (result : Outcome) (next : Seen) (moment : Moment) → NonceCommand s ask result next moment → StillWorks s.seen.guard next.guard
nonce_still s ask result next moment (refused asks unfit) = same_still _ _ refl
nonce_still s ask result next moment (issued now fit is) = marked_still _ s.seen next is
nonce_still s ask result next moment (unissued now fit is) = missed_still _ s.seen next is
nonce_still s ask result next moment (cleared_ now fit live is) = marked_still _ s.seen next is
nonce_still s ask result next moment (uncleared now fit live is) = missed_still _ s.seen next is
nonce_still s ask result next moment (none_to_clear fit dead) = same_still _ _ refl

life_still : (s : State) (ending : Option Ending) (next : Seen) → Expires s ending next → StillWorks s.seen.guard next.guard
life_still s ending next (over now is) = marked_still _ s.seen next is
life_still s ending next (unended now is) = missed_still _ s.seen next is

-- each command asks what its service does
abbrev pub AllFit : State → Type 0
AllFit s = (service : Service) → All (IsFitting service) (queue_at s service)

module _ (P : Service → Command Job → Type 0) where
  -- the commands before a step
  abbrev Before : State → Type 0
  Before s = (b : Service) → All (P b) (queue_at s b)

  -- and behind it
  abbrev pub Turned : State → Event → State → Type 0
  Turned s event t = (b : Service) → All (Turn s event t (P b) b) (queue_at t b)

  -- a list of commands that stay
  stay_all : (s : State) (event : Event) (t : State) (b : Service) (q : List (Command Job)) → (b ≡ Cash → StillWorks s.seen.guard t.seen.guard) → All (P b) q → All (Turn s event t (P b) b) q
  stay_all s event t b q still all = each (P b) (Turn s event t (P b) b) (λ a holds. stays a holds (λ at runs. still at)) q all

  -- all commands stay
  unchanged : (s : State) (event : Event) (t : State) → t.queues ≡ s.queues → StillWorks s.seen.guard t.seen.guard → Before s → Turned s event t
  unchanged s event t same still h = λ b. subst (λ (qs : Queues). All (Turn s event t (P b) b) (queue_of qs b)) (sym same) (stay_all s event t b (queue_at s b) (λ at. still) (h b))

  -- those of one service turn
  turned_at : (s : State) (event : Event) (t : State) (service : Service) (q : List (Command Job)) → t.queues ≡ with_queue s.queues service q
      → ((b : Service) → is_service service b ≡ false → b ≡ Cash → StillWorks s.seen.guard t.seen.guard)
      → All (Turn s event t (P service) service) q → Before s → Turned s event t
  turned_at s event t service q is still all h = λ b. subst (λ (qs : Queues). All (Turn s event t (P b) b) (queue_of qs b)) (sym is) (elim (cases_Bool (is_service service b)) [
    | inl y ↦
        let here : All (Turn s event t (P service) service) (queue_of (with_queue s.queues service q) service) = rw (queue_itself s.queues service q) all in
        subst (λ (c : Service). All (Turn s event t (P c) c) (queue_of (with_queue s.queues service q) c)) (sym (same_service service b y)) here
    | inr n ↦ rw (queue_there s.queues service b q n) (stay_all s event t b (queue_at s b) (still b n) (h b))
  ])

  -- one command turns, and the others stay
  turned_one : (s : State) (event : Event) (t : State) (service : Service) (f : Command Job → Command Job) (p : Command Job → Bool) (a : Command Job) → find p (queue_at s service) ≡ Some a
      → t.queues ≡ with_queue s.queues service (changed f a (queue_at s service)) → StillWorks s.seen.guard t.seen.guard → IsQueue (queue_at s service)
      → (P service a → Turn s event t (P service) service (f a)) → Before s → Turned s event t
  turned_one s event t service f p a found is still queue here h =
      turned_at s event t service (changed f a (queue_at s service)) is (λ b other at. still)
      (changed_all (P service) (Turn s event t (P service) service) f p a (queue_at s service) found queue.ids here (λ b other holds. stays b holds (λ at runs. still)) (h service)) h

  -- one command turns, and all others of its service rest
  turned_alone : (s : State) (event : Event) (t : State) (service : Service) (f : Command Job → Command Job) (p : Command Job → Bool) (a : Command Job) → find p (queue_at s service) ≡ Some a
      → t.queues ≡ with_queue s.queues service (changed f a (queue_at s service)) → service ≡ Cash → IsQueue (queue_at s service) → OthersRest a (queue_at s service)
      → (P service a → Turn s event t (P service) service (f a)) → Before s → Turned s event t
  turned_alone s event t service f p a found is at_cash queue rest here h =
      turned_at s event t service (changed f a (queue_at s service)) is (λ b other at. absurd (elsewhere b other at))
      (changed_all (λ b. P service b × (is_at (ticket_of a) b ≡ false → is_running b.stage ≡ false)) (Turn s event t (P service) service) f p a (queue_at s service) found queue.ids
      (λ holds. here holds.0) (λ b other holds. stays b holds.0 (λ at runs. absurd (false≢true (sym (holds.1 other) ∙ runs))))
      (λ k d within. (h service k d within, rest k d within))) h
    where
      elsewhere : (b : Service) → is_service service b ≡ false → b ≡ Cash → ⊥
      elsewhere b other at = let e = rw (at_cash, at) at other in false≢true (sym e)

notes_taken : (P : Service → Command Job → Type 0) (s : State) (event : Event) (told_ : Answer) (new : State) → TakesNotes s told_ new → ((b : Service) → All (P b) (queue_at s b)) → Turned P s event new
notes_taken P s event told_ new (shut closed) h = unchanged P s event s refl (same_still _ _ refl) h
notes_taken P s event told_ new (took moved next open_ takes) h = unchanged P s event _ refl (taken_still s.seen next moved false takes) h
notes_taken P s event told_ new (failed moved next open_ takes) h = unchanged P s event _ refl (taken_still s.seen next moved true takes) h

module _ (P : Service → Command Job → Type 0) (s : State) (event : Event) (new : State) (machine : IsMachine s) (h : (b : Service) → All (P b) (queue_at s b)) where
  -- a command hears its device, which has come to another state
  hears : (u : State) → u.queues ≡ s.queues → u.seen ≡ s.seen → (service : Service) (p : Command Job → Bool) (a : Command Job) → find p (queue_at s service) ≡ Some a
      → (service ≡ Cash → ⊥) → (saying : Saying) → Speaks s event service a saying → Hears u service a saying new → Turned P s event new
  hears u queues seen service p a found elsewhere saying speaks is =
      rw (is.is) (turned_one P s event _ service (with_saying saying.result) p a found
      (ap (λ (qs : Queues). with_queue qs service (changed (with_saying saying.result) a (queue_of qs service))) queues) (same_still _ _ (ap (λ (x : Seen). x.guard) seen)) (machine.queues service)
      (λ holds. heard a holds elsewhere saying speaks) h)

  takes_nonce : TakesNonce s new → Turned P s event new
  takes_nonce is = by_time (is_due s.now is.command) refl is.is
    where
      waits : is_waiting is.command.stage ≡ true
      waits = on_line is.command Nonce (found_passes (waits_on Nonce) (queue_at s Cash) is.command is.first)

      by_time : (b : Bool) → is_due s.now is.command ≡ b → MatchBool b (new ≡ resulting s Cash is.command (plain TimeOut)) (DoesNonce s is.command new) → Turned P s event new
      by_time true due is_late = rw is_late (turned_one P s event _ Cash (with_result (plain TimeOut)) (waits_on Nonce) is.command is.first refl (same_still _ _ refl) (machine.queues Cash) (λ holds. late is.command holds waits due) h)
      by_time false due does = rw (does.is) (turned_one P s event _ Cash (with_result does.result) (waits_on Nonce) is.command is.first refl (nonce_still s is.command.job.ask does.result does.next does.issued does.done) (machine.queues Cash)
          (λ holds. nonce is.command holds waits refl does.result does.done) h)

  works_on_plan : WorksOnPlan s new → Turned P s event new
  works_on_plan is =
      let runs = found_passes (λ (b : Command Job). is_running b.stage) (queue_at s Cash) is.command is.runs in
      rw (is.is) (turned_alone P s event _ Cash (with_went is.left _ is.went) (λ b. is_running b.stage) is.command is.runs refl refl (machine.queues Cash)
      (others_rest (λ b. is_running b.stage) (queue_at s Cash) is.command is.runs runs (machine.queues Cash).running)
      (λ holds. worked is.command holds runs refl is.plan is.left is.planned is.went is.works) h)

  stops : (service : Service) → Stops s service new → Turned P s event new
  stops service is =
      let passes = and_parts _ _ (found_passes (is_stopped s) (queue_at s service) is.command is.first) in
      let t = resulting s service is.command (plain (cond is.command.marked Canceled TimeOut)) in
      rw (is.is) (turned_one P s event (device_stopped t service) service (with_result (plain (cond is.command.marked Canceled TimeOut))) (is_stopped s) is.command is.first
      (queues_stopped t service) (same_still _ _ (ap (λ (x : Seen). x.guard) (seen_stopped t service))) (machine.queues service)
      (λ holds. stopped_running is.command holds passes.0 passes.1) h)

  answers_first : (service : Service) → AnswersFirst s service new → Turned P s event new
  answers_first service is = rw (is.is) (behind is.before)
    where
      left_over : (t : State) → StillWorks s.seen.guard t.seen.guard → All (Turn s event t (P service) service) (without (queue_at s service) (ticket_of is.command))
      left_over t still = All-filter _ (Turn s event t (P service) service) (queue_at s service) (stay_all P s event t service (queue_at s service) (λ at. still) (h service))

      behind : (before : Option (List ℕ)) → Turned P s event (with_queue_at (sent (announced s service before) service is.command.client (is.last ∷ [])) service (without (queue_at s service) (ticket_of is.command)))
      behind None = turned_at P s event _ service _ refl (λ b other at. same_still _ _ refl) (left_over _ (same_still _ _ refl)) h
      behind (Some frame) = turned_at P s event _ service _ refl (λ b other at. same_still _ _ refl) (left_over _ (same_still _ _ refl)) h

  begins_as : (service : Service) (a : Command Job) → find (waits_on Device) (queue_at s service) ≡ Some a → running_at s service ≡ None → case_of s service ≡ working.begin
      → (ask : Ask) → a.job.ask ≡ ask → MayAsk service a.line ask → BeginsAs ask s service a new → Turned P s event new
  begins_as service a found idle case bad asks may is =
      let waits = on_line a Device (found_passes (waits_on Device) (queue_at s service) a found) in
      rw is (turned_one P s event _ service (with_result (plain InvalidData)) (waits_on Device) a found refl (same_still _ _ refl) (machine.queues service) (λ holds. misasked a holds waits asks) h)
  begins_as service a found idle case (cash ask) asks may is =
      let waits = on_line a Device (found_passes (waits_on Device) (queue_at s service) a found) in
      rw (is.is) (turned_alone P s event _ service (with_start is.start) (waits_on Device) a found refl (asked_of_cash service a.line ask may) (machine.queues service)
      (all_rest (queue_at s service) a idle) (λ holds. begun a holds waits (other_case s working.begin (subst (λ b. case_of s b ≡ working.begin) (asked_of_cash service a.line ask may) case) not_begin) (asked_of_cash service a.line ask may) ask asks is.start is.begins) h)
  begins_as service a found idle case (card ask) asks may is =
      let waits = on_line a Device (found_passes (waits_on Device) (queue_at s service) a found) in
      hears (with_slot s (card_reader.row_of s.slot (card_event.Begin ask)).next) refl refl service (waits_on Device) a found (card_elsewhere service a.line ask may) (card_says (card_reader.row_of s.slot (card_event.Begin ask)).effect) (card_begins waits ask) is
  begins_as service a found idle case (entry ask) asks may is =
      let waits = on_line a Device (found_passes (waits_on Device) (queue_at s service) a found) in
      hears (with_keypad s (keyboard.row_of s.keypad (key_event.Begin ask)).next) refl refl service (waits_on Device) a found (keys_elsewhere service a.line ask may) (keyboard_says (keyboard.row_of s.keypad (key_event.Begin ask)).effect) (keys_begin waits ask) is
  begins_as service a found idle case issue asks may is = absurd is
  begins_as service a found idle case clear asks may is = absurd is

  does : AllFit s → (case : working.Case) (service : Service) → case_of s service ≡ case → Does case s service new → Turned P s event new
  does fit working.order service at is = works_on_plan is
  does fit working.expire service at is = rw (is.is) (unchanged P s event _ (queues_announced s is.frame) (life_still s is.ending is.next is.expires) h)
  does fit working.answer service at is = answers_first service is
  does fit working.nonce service at is = takes_nonce is
  does fit working.overdue service at is =
      let passes = and_parts _ _ (found_passes (is_overdue s) (queue_at s service) is.command is.first) in
      rw (is.is) (turned_one P s event _ service (with_result (plain TimeOut)) (is_overdue s) is.command is.first refl (same_still _ _ refl) (machine.queues service)
      (λ holds. late is.command holds (on_line is.command Device passes.0) passes.1) h)
  does fit working.stop service at is = stops service is
  does fit working.go_on service at is = works_on_plan is
  does fit working.begin service at is =
      begins_as service is.command is.first is.alone at is.command.job.ask refl (found_all (IsFitting service) (waits_on Device) (queue_at s service) is.command is.first (fit service)) is.begins
  does fit working.rest service at is = rw is (unchanged P s event s refl (same_still _ _ refl) h)

  is_heard : (u : State) → u.queues ≡ s.queues → u.seen ≡ s.seen → (service : Service) → (service ≡ Cash → ⊥) → (o : Option (Command Job)) → running_at s service ≡ o → (saying : Saying) → ((a : Command Job) → is_running a.stage ≡ true → Speaks s event service a saying) → IsHeard u service o saying new → Turned P s event new
  is_heard u queues seen service elsewhere None none saying speaks is = rw is (unchanged P s event u queues (same_still _ _ (ap (λ (x : Seen). x.guard) seen)) h)
  is_heard u queues seen service elsewhere (Some a) found saying speaks is =
      hears u queues seen service (λ b. is_running b.stage) a found elsewhere saying (speaks a (found_passes (λ (b : Command Job). is_running b.stage) (queue_at s service) a found)) is

  card_heard : (u : State) → u.queues ≡ s.queues → u.seen ≡ s.seen → running_at u Card ≡ running_at s Card → (effect : card_reader.Effect) → ((a : Command Job) → is_running a.stage ≡ true → Speaks s event Card a (card_says effect)) → CardSays u effect new → Turned P s event new
  card_heard u queues seen same card_reader.removed speaks is = rw (is.2) (unchanged P s event _ queues (same_still _ _ (ap (λ (x : Seen). x.guard) seen)) h)
  card_heard u queues seen same card_reader.nothing speaks is = is_heard u queues seen Card card_not_cash (running_at u Card) (sym same) (card_says card_reader.nothing) speaks is
  card_heard u queues seen same card_reader.ask_insert speaks is = is_heard u queues seen Card card_not_cash (running_at u Card) (sym same) (card_says card_reader.ask_insert) speaks is
  card_heard u queues seen same (card_reader.inserted payload) speaks is = is_heard u queues seen Card card_not_cash (running_at u Card) (sym same) (card_says (card_reader.inserted payload)) speaks is
  card_heard u queues seen same (card_reader.done code payload) speaks is = is_heard u queues seen Card card_not_cash (running_at u Card) (sym same) (card_says (card_reader.done code payload)) speaks is

  touches_card : (touched : CardEvent) → (touched ≡ card_event.Fault → event ≡ touch CardFault) → TouchesCard s touched new → Turned P s event new
  touches_card touched fault is = let row = card_reader.row_of s.slot touched in card_heard (with_slot s row.next) refl refl refl row.effect (λ a runs. card_touched refl runs touched fault) is

  touches_keys : (touched : KeyEvent) → (touched ≡ key_event.Fault → event ≡ touch KeyFault) → TouchesKeys s touched new → Turned P s event new
  touches_keys touched fault is = let row = keyboard.row_of s.keypad touched in is_heard (with_keypad s row.next) refl refl Keys keys_not_cash (running_at s Keys) refl (keyboard_says row.effect) (λ a runs. keys_touched refl runs touched fault) is

  takes_on : (k : Connection) (c : envelope.Command) (known : Option Known) → known_of k.service c.name ≡ known → TakesOn s k c known new → Turned P s event new
  takes_on k c None none is = rw (is.is) (turned_at P s event _ k.service (done_at_once s k c).queue refl (λ b other at. same_still _ _ refl) (at_once _ (same_still _ _ refl)) h)
    where
      stop_turned : (t : State) → StillWorks s.seen.guard t.seen.guard → (a : Command Job) (holds b : Bool) → (is_waiting a.stage && (mark holds a).marked) ≡ b → P k.service a
          → Turn s event t (P k.service) k.service (cond b (with_result (plain Canceled) (mark holds a)) (mark holds a))
      stop_turned t still a holds true is p = stopped_waiting a holds p (and_parts _ _ is).0 (and_parts _ _ is).1
      stop_turned t still a holds false is p = marks a holds p (λ at runs. still)

      stopped_all : (t : State) → StillWorks s.seen.guard t.seen.guard → (ids : Ids) → All (Turn s event t (P k.service) k.service) (stopped (queue_at s k.service) k.client ids)
      stopped_all t still ids =
          let named = λ (a : Command Job). is_named k.client ids a && not (is_ready a.stage) in
          All-map (Turn s event t (P k.service) k.service) stop (canceled (queue_at s k.service) k.client ids)
          (All-map (λ a. Turn s event t (P k.service) k.service (stop a)) (λ a. mark (named a) a) (queue_at s k.service)
          (each (P k.service) (λ a. Turn s event t (P k.service) k.service (stop (mark (named a) a))) (λ a p. stop_turned t still a (named a) (is_waiting a.stage && (mark (named a) a).marked) refl p) (queue_at s k.service) (h k.service)))

      if_named : (t : State) → StillWorks s.seen.guard t.seen.guard → (ids : Ids) (b : Bool)
          → All (Turn s event t (P k.service) k.service) (cond {A = AtOnce} b (record { result = success nothing; queue = stopped (queue_at s k.service) k.client ids }) (record { result = error NoMatchingRequestIds; queue = queue_at s k.service })).queue
      if_named t still ids true = stopped_all t still ids
      if_named t still ids false = stay_all P s event t k.service (queue_at s k.service) (λ at. still) (h k.service)

      canceling_all : (t : State) → StillWorks s.seen.guard t.seen.guard → (ids : Result (Option (List ℕ)) Shape) → All (Turn s event t (P k.service) k.service) (canceling (queue_at s k.service) k.client ids).queue
      canceling_all t still (Err shape) = stay_all P s event t k.service (queue_at s k.service) (λ at. still) (h k.service)
      canceling_all t still (Ok ids) = if_named t still (ids_of ids) (list_any (is_named k.client (ids_of ids)) (queue_at s k.service))

      at_once : (t : State) → StillWorks s.seen.guard t.seen.guard → All (Turn s event t (P k.service) k.service) (done_at_once s k c).queue
      at_once t still = by_command s k c.payload (λ did. All (Turn s event t (P k.service) k.service) did.queue) (immediate_of k.service c.name)
          (λ is. canceling_all t still (request_ids c.payload)) (stay_all P s event t k.service (queue_at s k.service) (λ at. still) (h k.service))
  takes_on k c (Some known) has is = of_room (is_crowded (queue_at s k.service) k.client) is
    where
      of_room : (b : Bool) → MatchBool b (Refuses s k (Some c.id) (Some c.name) TooManyRequests new) (Accepts s k known c new) → Turned P s event new
      of_room true is = rw (is.is) (unchanged P s event _ refl (same_still _ _ refl) h)
      of_room false is = rw (is.is) (turned_at P s event _ k.service _ refl (λ b other at. same_still _ _ refl)
          (All-push (Turn s event _ (P k.service) k.service) (queue_at s k.service) _ (stay_all P s event _ k.service (queue_at s k.service) (λ at. same_still _ _ refl) (h k.service))
          (accepted k.client c.id known c.timeout c.name c.payload is.ask has is.asks)) h)

  takes : (k : Connection) (says : Result envelope.Command Refuse) → TakesText s k says new → Turned P s event new
  takes k (Err refuse) is = rw (is.is) (unchanged P s event _ refl (same_still _ _ refl) h)
  takes k (Ok c) is = of_id (is_wrong_id (pending_in k.client (queue_at s k.service)) c.id) is
    where
      of_id : (b : Bool) → MatchBool b (Refuses s k (Some c.id) (Some c.name) InvalidRequestId new) (TakesOn s k c (known_of k.service c.name) new) → Turned P s event new
      of_id true is = rw (is.is) (unchanged P s event _ refl (same_still _ _ refl) h)
      of_id false is = takes_on k c (known_of k.service c.name) refl is

  touches : (touched : Touch) → event ≡ touch touched → (told_ : Answer) → Touches s touched told_ new → Turned P s event new
  touches (CardIn tracks) at told_ is = touches_card (card_event.Inserted tracks) (λ e. absurd (no_fault_in tracks e)) is.1
  touches CardTaken at told_ is = touches_card card_event.Removed (λ e. absurd (no_fault_out e)) is.1
  touches CardFault at told_ is = touches_card card_event.Fault (λ e. at) is.1
  touches (Key key) at told_ is = touches_keys (key_event.Key key) (λ e. absurd (no_fault_key key e)) is.1
  touches KeyFault at told_ is = touches_keys key_event.Fault (λ e. at) is.1
  touches NotesTaken at told_ is = notes_taken P s event told_ new is h

-- the moment at which an event finds the machine
abbrev pub at_event : State → Event → State
at_event old (post pass text now) = at_moment old now
at_event old (work service now) = at_moment old now
at_event old other = old

pub seen_at : (old : State) (event : Event) → (at_event old event).seen ≡ old.seen
seen_at old (join service) = refl
seen_at old (post pass text now) = refl
seen_at old (touch it) = refl
seen_at old (work service now) = refl
seen_at old (outbox pass) = refl
seen_at old (leave pass) = refl
seen_at old restart = refl
seen_at old end_ = refl
seen_at old finish = refl

queues_at : (old : State) (event : Event) → (at_event old event).queues ≡ old.queues
queues_at old (join service) = refl
queues_at old (post pass text now) = refl
queues_at old (touch it) = refl
queues_at old (work service now) = refl
queues_at old (outbox pass) = refl
queues_at old (leave pass) = refl
queues_at old restart = refl
queues_at old end_ = refl
queues_at old finish = refl

module _ (P : Service → Command Job → Type 0) (old : State) (machine : IsMachine old) (fit : AllFit old) (h : (b : Service) → All (P b) (queue_at old b)) where
  posts : (pass : Pass) (text : List ℕ) (now : Moment) (new : State) → Posts old pass text now new → Turned P (at_moment old now) (post pass text now) new
  posts pass text now new is = go (connection_of old pass) is
    where
      go : (o : Option Connection) → MatchOption o (new ≡ old) (λ k. TakesText (at_moment old now) k (command_in text) new) → Turned P (at_moment old now) (post pass text now) new
      go None is = rw is (unchanged P (at_moment old now) (post pass text now) old refl (same_still _ _ refl) h)
      go (Some k) is = takes P (at_moment old now) (post pass text now) new (aside old _ refl refl refl machine) h k (command_in text) is

  hands : (pass : Pass) (frames : List (List ℕ)) (new : State) → HandsOver old pass frames new → Turned P old (outbox pass) new
  hands pass frames new is = go (connection_of old pass) is
    where
      go : (o : Option Connection) → MatchOption o ((frames ≡ []) × (new ≡ old)) (λ k. (frames ≡ k.waiting) × (new ≡ record old { connections = map (without_mail k.client) old.connections })) → Turned P old (outbox pass) new
      go None is = rw (is.1) (unchanged P old (outbox pass) old refl (same_still _ _ refl) h)
      go (Some k) is = rw (is.1) (unchanged P old (outbox pass) _ refl (same_still _ _ refl) h)

  leaves_at : (event : Event) (k : Connection) → Turned P old event (left old k)
  leaves_at event k =
      let keep = λ (a : Command Job). not (is_of k.client a) || is_running a.stage in
      turned_at P old event (left old k) k.service (without_client (queue_at old k.service) k.client) refl (λ b other at. same_still _ _ refl)
      (All-map (Turn old event (left old k) (P k.service) k.service) (λ a. mark (is_of k.client a) a) (filter keep (queue_at old k.service))
      (All-filter keep (λ a. Turn old event (left old k) (P k.service) k.service (mark (is_of k.client a) a)) (queue_at old k.service)
      (each (P k.service) (λ a. Turn old event (left old k) (P k.service) k.service (mark (is_of k.client a) a)) (λ a p. marks a (is_of k.client a) p (λ at runs. same_still _ _ refl)) (queue_at old k.service) (h k.service)))) h

  leaves : (pass : Pass) (new : State) → DropsClient old pass new → Turned P old (leave pass) new
  leaves pass new is = go (connection_of old pass) is
    where
      go : (o : Option Connection) → MatchOption o (new ≡ old) (λ k. new ≡ left old k) → Turned P old (leave pass) new
      go None is = rw is (unchanged P old (leave pass) old refl (same_still _ _ refl) h)
      go (Some k) is = rw is (leaves_at (leave pass) k)

  bare_turned : (s : State) (event : Event) (seen : Seen) (life boot : ℕ) → Turned P s event (bare seen life boot)
  bare_turned s event seen life boot Publisher = All-nil _
  bare_turned s event seen life boot Card = All-nil _
  bare_turned s event seen life boot Keys = All-nil _
  bare_turned s event seen life boot Cash = All-nil _

  turned_by : (event : Event) (told_ : Answer) (new : State) → Happens old event told_ new → Turned P (at_event old event) event new
  turned_by (join service) (joined pass) new is = rw (is.is) (unchanged P old (join service) _ refl (same_still _ _ refl) h)
  turned_by (join service) full new is = rw (is.1) (unchanged P old (join service) old refl (same_still _ _ refl) h)
  turned_by (post pass text now) done new is = posts pass text now new is
  turned_by (touch it) told_ new is = touches P old (touch it) new machine h it refl told_ is
  turned_by (work service now) told_ new is = does P (at_moment old now) (work service now) new (aside old _ refl refl refl machine) h fit (case_of (at_moment old now) service) service refl is.1
  turned_by (outbox pass) (handed frames) new is = hands pass frames new is
  turned_by (leave pass) done new is = leaves pass new is
  turned_by restart restarted new is = rw (is.is) (bare_turned old restart is.next old.life (length is.next.guard.records))
  turned_by restart unrestarted new is = rw (is.is) (bare_turned old restart is.next old.life 0)
  turned_by end_ ended new is = rw is (bare_turned old end_ old.seen old.life 0)
  turned_by finish ended new is = rw (is.is) (bare_turned old finish is.next old.life 0)
  turned_by finish unsettled new is = rw (is.is) (bare_turned old finish is.next old.life 0)
  turned_by event told_ new is = absurd is

  pub turns : (event : Event) (told_ : Answer) (new : State) → Step old event told_ new → Turned P (at_event old event) event new
  turns event told_ new (happens up is) = turned_by event told_ new is
  turns event told_ new (wanting is_memory wants) =
      let u = unmoved old new event wants in
      rw (u.is) (unchanged P (at_event old event) event _ (sym (queues_at old event)) (same_still _ _ (u.becomes.guard_is ∙ sym (ap (λ (x : Seen). x.guard) (seen_at old event)))) (λ b. rw (queues_at old event) (h b)))
