-- Each case of the work, and each touch, keeps every conversation.
use Rattle.std.proofs.Common.{◌≡◌, ℕ, Bool, true, false, MatchBool, List, [], ◌∷◌, Option, None, Some, find, refl}
use Rattle.xfs_base.specs.declared.moment.ClientId.{ClientId}
use Rattle.xfs_base.specs.declared.moment.Service.{Service}
use Rattle.xfs_base.specs.declared.moment.Service.TheVariants.{Publisher, Card, Keys, Cash}
use Rattle.xfs_card.specs.Table as card_reader
use Rattle.xfs_card.specs.declared.state.CardEvent.{CardEvent}
use Rattle.xfs_card.specs.declared.state.CardEvent.TheVariants as card_event
use Rattle.xfs_dispenser.specs.Answers.{Start, told, planned, Went, more, done}
use Rattle.xfs_dispenser.specs.declared.plan.Plan.{Plan}
use Rattle.xfs_envelope.specs.declared.code.Code.TheVariants.{TimeOut}
use Rattle.xfs_keyboard.specs.Keyboard as keyboard
use Rattle.xfs_keyboard.specs.declared.state.KeyEvent.{KeyEvent}
use Rattle.xfs_keyboard.specs.declared.state.KeyEvent.TheVariants as key_event
use Rattle.xfs_mech.specs.declared.touch.Touch.{Touch}
use Rattle.xfs_mech.specs.declared.touch.Touch.TheVariants.{CardIn, CardTaken, CardFault, Key, KeyFault, NotesTaken}
use Rattle.xfs_queue.specs.declared.command.Command.{Command}
use Rattle.xfs_queue.specs.declared.command.Line.TheVariants.{Device}
use Rattle.xfs_queue.specs.Commands.{is_due, is_ready, is_running, ticket_of, waits_on}
use Rattle.xfs_queue.specs.Queue.{without}
use Rattle.xfs_model.specs.Cases.{AnswersFirst, BeginsAs, Does, DoesNonce, EndsLife, IsTooLate, Stops, TakesNonce, WorksOnPlan, resulting, with_start, with_went}
use Rattle.xfs_model.specs.Connections.{announced, sent, with_queue_at}
use Rattle.xfs_model.specs.Conversations.{IsTalk}
use Rattle.xfs_model.specs.Devices.{Hears, Saying, card_says, device_stopped, keyboard_says, with_keypad, with_saying, with_slot}
use Rattle.xfs_model.specs.Events.{Answer}
use Rattle.xfs_model.specs.Frames.{Announces}
use Rattle.xfs_model.specs.Pendings.{known_to}
use Rattle.xfs_model.specs.Results.{changed, plain, with_result}
use Rattle.xfs_model.specs.State.{Ask, issue, clear, cash, card, entry, bad, Ending, Job, Outcome, State, queue_at}
use Rattle.xfs_model.specs.Touches.{CardSays, IsHeard, TakesNotes, Touches, TouchesCard, TouchesKeys, failed, running_at, shut, took}
use Rattle.xfs_model.specs.Work.{Case, order, expire, answer, nonce, overdue, stop, go_on, begin, rest}
use Rattle.xfs_model.proofs.Pendings.{pending_changed}
use Rattle.xfs_model.proofs.Talks.{talk_announced, talk_completed, talk_heard, talk_requeued}

known_went : (c : ClientId) (plan : Plan) (ended : Bool) (went : Went) (a : Command Job) → known_to c (with_went plan ended went a) ≡ known_to c a
known_went c plan ended more a = refl
known_went c plan ended (done result) a = refl

known_start : (c : ClientId) (start : Start) (a : Command Job) → known_to c (with_start start a) ≡ known_to c a
known_start c (told result) a = refl
known_start c (planned plan) a = refl

known_saying : (c : ClientId) (result : Option Outcome) (a : Command Job) → known_to c (with_saying result a) ≡ known_to c a
known_saying c None a = refl
known_saying c (Some result) a = refl

-- a nonce's end, where it is announced
pub announces : (s : State) (service : Service) (ending : Option Ending) (frame : Option (List ℕ)) → Announces ending frame
    → (mine : ClientId) (ts fs : List (List ℕ)) → IsTalk s mine ts fs → IsTalk (announced s service frame) mine ts fs
announces s service None None is mine ts fs h = h
announces s service None (Some frame) is mine ts fs h = absurd is
announces s service (Some ending) None is mine ts fs h = absurd is
announces s service (Some ending) (Some frame) is mine ts fs h = talk_announced s service frame _ _ is mine ts fs h

-- a command of the queue is changed, and stays the same to its client
changes : (s : State) (service : Service) (f : Command Job → Command Job) (a : Command Job) → ((c : ClientId) (b : Command Job) → known_to c (f b) ≡ known_to c b)
    → (mine : ClientId) (ts fs : List (List ℕ)) → IsTalk s mine ts fs → IsTalk (with_queue_at s service (changed f a (queue_at s service))) mine ts fs
changes s service f a same mine ts fs h = talk_requeued s service (changed f a (queue_at s service)) (λ c. pending_changed c f (same c) a (queue_at s service)) mine ts fs h

results : (s : State) (service : Service) (a : Command Job) (result : Outcome) → (mine : ClientId) (ts fs : List (List ℕ)) → IsTalk s mine ts fs → IsTalk (resulting s service a result) mine ts fs
results s service a result mine ts fs h = changes s service (with_result result) a (λ c b. refl) mine ts fs h

-- a command that is found hears its device
hears : (s : State) (service : Service) (p : Command Job → Bool) (a : Command Job) → find p (queue_at s service) ≡ Some a → (saying : Saying) (new : State) → Hears s service a saying new
    → (mine : ClientId) (ts fs : List (List ℕ)) → IsTalk s mine ts fs → IsTalk new mine ts fs
hears s service p a found saying new is mine ts fs h =
    rw (is.is) (talk_heard s service p a found saying.events is.events is.are_events (changed (with_saying saying.result) a (queue_at s service))
    (λ c. pending_changed c (with_saying saying.result) (known_saying c saying.result) a (queue_at s service)) mine ts fs h)

module _ (s new : State) (mine : ClientId) (ts fs : List (List ℕ)) (h : IsTalk s mine ts fs) where
  works_on_plan : WorksOnPlan s new → IsTalk new mine ts fs
  works_on_plan is = rw (is.is) (changes s Cash _ is.command (λ c b. known_went c is.left _ is.went b) mine ts fs h)

  ends_life : EndsLife s new → IsTalk new mine ts fs
  ends_life is = rw (is.is) (announces s Cash is.ending is.frame is.announces mine ts fs h)

  takes_nonce : TakesNonce s new → IsTalk new mine ts fs
  takes_nonce is = by_time (is_due s.now is.command) is.is
    where
      by_time : (b : Bool) → MatchBool b (new ≡ resulting s Cash is.command (plain TimeOut)) (DoesNonce s is.command new) → IsTalk new mine ts fs
      by_time true late = rw late (results s Cash is.command (plain TimeOut) mine ts fs h)
      by_time false does = rw (does.is) (results s Cash is.command does.result mine ts fs h)

  is_too_late : (service : Service) → IsTooLate s service new → IsTalk new mine ts fs
  is_too_late service is = rw (is.is) (results s service is.command (plain TimeOut) mine ts fs h)

  stops : (service : Service) → Stops s service new → IsTalk new mine ts fs
  stops service is = rw (is.is) (of_device service _ (results s service is.command _ mine ts fs h))
    where
      of_device : (device : Service) (t : State) → IsTalk t mine ts fs → IsTalk (device_stopped t device) mine ts fs
      of_device Publisher t talks = talks
      of_device Card t talks = talks
      of_device Keys t talks = talks
      of_device Cash t talks = talks

  begins_as : (service : Service) (a : Command Job) → find (waits_on Device) (queue_at s service) ≡ Some a → (ask : Ask) → BeginsAs ask s service a new → IsTalk new mine ts fs
  begins_as service a found bad is = rw is (results s service a _ mine ts fs h)
  begins_as service a found (cash ask) is = rw (is.is) (changes s service (with_start is.start) a (λ c b. known_start c is.start b) mine ts fs h)
  begins_as service a found (card ask) is =
      let row = card_reader.row_of s.slot (card_event.Begin ask) in
      hears (with_slot s row.next) service (waits_on Device) a found (card_says row.effect) new is mine ts fs h
  begins_as service a found (entry ask) is =
      let row = keyboard.row_of s.keypad (key_event.Begin ask) in
      hears (with_keypad s row.next) service (waits_on Device) a found (keyboard_says row.effect) new is mine ts fs h
  begins_as service a found issue is = absurd is
  begins_as service a found clear is = absurd is

  answers_first : (service : Service) → AnswersFirst s service new → IsTalk new mine ts fs
  answers_first service is = rw (is.is) (behind is.before (announces s service is.result.ending is.before is.announces mine ts fs h))
    where
      behind : (before : Option (List ℕ)) → IsTalk (announced s service before) mine ts fs
          → IsTalk (with_queue_at (sent (announced s service before) service is.command.client (is.last ∷ [])) service (without (queue_at s service) (ticket_of is.command))) mine ts fs
      behind None talks = talk_completed s service (λ a. is_ready a.stage) is.command is.first is.result.code is.result.payload is.last is.completes mine ts fs talks
      behind (Some frame) talks = talk_completed (announced s service (Some frame)) service (λ a. is_ready a.stage) is.command is.first is.result.code is.result.payload is.last is.completes mine ts fs talks

  pub does : (case : Case) (service : Service) → Does case s service new → IsTalk new mine ts fs
  does order service is = works_on_plan is
  does expire service is = ends_life is
  does answer service is = answers_first service is
  does nonce service is = takes_nonce is
  does overdue service is = is_too_late service is
  does stop service is = stops service is
  does go_on service is = works_on_plan is
  does begin service is = begins_as service is.command is.first is.command.job.ask is.begins
  does rest service is = rw is h

  is_heard : (service : Service) (o : Option (Command Job)) → running_at s service ≡ o → (saying : Saying) → IsHeard s service o saying new → IsTalk new mine ts fs
  is_heard service None none saying is = rw is h
  is_heard service (Some a) found saying is = hears s service (λ b. is_running b.stage) a found saying new is mine ts fs h

  card_says_ : (effect : card_reader.Effect) → CardSays s effect new → IsTalk new mine ts fs
  card_says_ card_reader.removed is = rw (is.2) (talk_announced s Card is.0 _ _ is.1 mine ts fs h)
  card_says_ card_reader.nothing is = is_heard Card (running_at s Card) refl (card_says card_reader.nothing) is
  card_says_ card_reader.ask_insert is = is_heard Card (running_at s Card) refl (card_says card_reader.ask_insert) is
  card_says_ (card_reader.inserted payload) is = is_heard Card (running_at s Card) refl (card_says (card_reader.inserted payload)) is
  card_says_ (card_reader.done code payload) is = is_heard Card (running_at s Card) refl (card_says (card_reader.done code payload)) is

touches_card : (s : State) (event : CardEvent) (new : State) → TouchesCard s event new → (mine : ClientId) (ts fs : List (List ℕ)) → IsTalk s mine ts fs → IsTalk new mine ts fs
touches_card s event new is mine ts fs h = let row = card_reader.row_of s.slot event in card_says_ (with_slot s row.next) new mine ts fs h row.effect is

touches_keys : (s : State) (event : KeyEvent) (new : State) → TouchesKeys s event new → (mine : ClientId) (ts fs : List (List ℕ)) → IsTalk s mine ts fs → IsTalk new mine ts fs
touches_keys s event new is mine ts fs h =
    let row = keyboard.row_of s.keypad event in
    is_heard (with_keypad s row.next) new mine ts fs h Keys (running_at s Keys) refl (keyboard_says row.effect) is

takes_notes : (s : State) (told_ : Answer) (new : State) → TakesNotes s told_ new → (mine : ClientId) (ts fs : List (List ℕ)) → IsTalk s mine ts fs → IsTalk new mine ts fs
takes_notes s told_ new (shut closed) mine ts fs h = h
takes_notes s told_ new (took moved next open_ takes) mine ts fs h = h
takes_notes s told_ new (failed moved next open_ takes) mine ts fs h = h

pub touches : (s : State) (touch : Touch) (told_ : Answer) (new : State) → Touches s touch told_ new → (mine : ClientId) (ts fs : List (List ℕ)) → IsTalk s mine ts fs → IsTalk new mine ts fs
touches s (CardIn tracks) told_ new is mine ts fs h = touches_card s (card_event.Inserted tracks) new is.1 mine ts fs h
touches s CardTaken told_ new is mine ts fs h = touches_card s card_event.Removed new is.1 mine ts fs h
touches s CardFault told_ new is mine ts fs h = touches_card s card_event.Fault new is.1 mine ts fs h
touches s (Key key) told_ new is mine ts fs h = touches_keys s (key_event.Key key) new is.1 mine ts fs h
touches s KeyFault told_ new is mine ts fs h = touches_keys s key_event.Fault new is.1 mine ts fs h
touches s NotesTaken told_ new is mine ts fs h = takes_notes s told_ new is mine ts fs h
