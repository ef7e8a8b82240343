-- A step calls the guard at most once.
use Rattle.std.proofs.Common.{◌≡◌, ℕ, Bool, true, false, MatchBool, MatchOption, List, [], Option, None, Some, Result, Ok, Err, map, refl, ap, ◌∙◌, inl, inr}
use Rattle.xfs_base.specs.declared.moment.Moment.{Moment}
use Rattle.xfs_base.specs.declared.moment.Service.{Service}
use Rattle.xfs_base.specs.declared.moment.Service.TheVariants.{Publisher, Card, Keys, Cash}
use Rattle.xfs_card.specs.Table as card_reader
use Rattle.xfs_card.specs.declared.state.CardEvent.{CardEvent}
use Rattle.xfs_card.specs.declared.state.CardEvent.TheVariants as card_event
use Rattle.xfs_dispenser.specs.Seen.{Seen}
use Rattle.xfs_envelope.specs.Commands.{command_in}
use Rattle.xfs_envelope.specs.Commands as envelope
use Rattle.xfs_envelope.specs.declared.code.Code.TheVariants.{TimeOut}
use Rattle.xfs_envelope.specs.declared.code.Status.TheVariants.{InvalidRequestId, TooManyRequests}
use Rattle.xfs_envelope.specs.declared.command.Refuse.{Refuse}
use Rattle.xfs_conversation.specs.Pending.{is_wrong_id}
use Rattle.xfs_keyboard.specs.Keyboard as keyboard
use Rattle.xfs_keyboard.specs.declared.state.KeyEvent.{KeyEvent}
use Rattle.xfs_keyboard.specs.declared.state.KeyEvent.TheVariants as key_event
use Rattle.xfs_mech.specs.declared.touch.Touch.{Touch}
use Rattle.xfs_mech.specs.declared.touch.Touch.TheVariants.{CardIn, CardTaken, CardFault, Key, KeyFault, NotesTaken}
use Rattle.xfs_queue.specs.declared.command.Command.{Command}
use Rattle.xfs_queue.specs.Commands.{is_due}
use Rattle.xfs_queue.specs.Queue.{is_crowded}
use Rattle.xfs_model.specs.Cases.{AnswersFirst, BeginsAs, Does, DoesNonce, Stops, TakesNonce, resulting}
use Rattle.xfs_model.specs.declared.known.Known.{Known}
use Rattle.xfs_model.specs.Commands.{known_of}
use Rattle.xfs_model.specs.Connections.{announced, connection_of, left, without_mail}
use Rattle.xfs_model.specs.Devices.{Saying, card_says, device_stopped, keyboard_says, with_keypad, with_slot}
use Rattle.xfs_model.specs.Events.{Answer, Event, join, post, touch, work, outbox, leave, restart, end_, finish, joined, full, done, handed, ended}
use Rattle.xfs_model.specs.GuardCalls.{AtMostOneCall, IsPlain, checked, marked, missed, read, took as taken_, worked}
use Rattle.xfs_model.specs.Guards.{Expires, NonceCommand, cleared_, ended as over, issued, none_to_clear, refused, uncleared, unended, unissued}
use Rattle.xfs_model.specs.Pendings.{pending_in}
use Rattle.xfs_model.specs.Posts.{Accepts, Refuses, TakesText, TakesOn}
use Rattle.xfs_model.specs.Results.{plain}
use Rattle.xfs_model.specs.State.{Ask, issue, clear, cash, card, entry, bad, Connection, Ending, Job, Outcome, Pass, State, queue_at}
use Rattle.xfs_model.specs.Step.{Happens, HandsOver, DropsClient, Posts, Step, at_moment, happens, wanting}
use Rattle.xfs_model.specs.Touches.{CardSays, IsHeard, TakesNotes, Touches, TouchesCard, TouchesKeys, failed, running_at, shut, took}
use Rattle.xfs_model.specs.Work as working
use Rattle.xfs_model.specs.Work.{case_of}
use Rattle.xfs_model.proofs.Wanting.{unmoved}

seen_announced : (s : State) (service : Service) (frame : Option (List ℕ)) → (announced s service frame).seen ≡ s.seen
seen_announced s service None = refl
seen_announced s service (Some frame) = refl

pub seen_stopped : (s : State) (service : Service) → (device_stopped s service).seen ≡ s.seen
seen_stopped s Publisher = refl
seen_stopped s Card = refl
seen_stopped s Keys = refl
seen_stopped s Cash = refl

nonce_calls : (s : State) (ask : Ask) (result : Outcome) (next : Seen) (moment : Moment) → NonceCommand s ask result next moment → AtMostOneCall s.seen next
nonce_calls s ask result next moment (refused asks unfit) = inl refl
nonce_calls s ask result next moment (issued now fit marks) = inr (marked _ next marks)
nonce_calls s ask result next moment (unissued now fit misses) = inr (missed _ next misses)
nonce_calls s ask result next moment (cleared_ now fit live marks) = inr (marked _ next marks)
nonce_calls s ask result next moment (uncleared now fit live misses) = inr (missed _ next misses)
nonce_calls s ask result next moment (none_to_clear fit dead) = inl refl

life_calls : (s : State) (ending : Option Ending) (next : Seen) → Expires s ending next → AtMostOneCall s.seen next
life_calls s ending next (over now marks) = inr (marked _ next marks)
life_calls s ending next (unended now misses) = inr (missed _ next misses)

module _ (s new : State) where
  answers : (service : Service) → AnswersFirst s service new → AtMostOneCall s.seen new.seen
  answers service is = inl (ap (λ (t : State). t.seen) is.is ∙ seen_announced s service is.before)

  takes_nonce : TakesNonce s new → AtMostOneCall s.seen new.seen
  takes_nonce is = by_time (is_due s.now is.command) is.is
    where
      by_time : (b : Bool) → MatchBool b (new ≡ resulting s Cash is.command (plain TimeOut)) (DoesNonce s is.command new) → AtMostOneCall s.seen new.seen
      by_time true late = rw late (inl refl)
      by_time false does = rw (does.is) (nonce_calls s is.command.job.ask does.result does.next does.issued does.done)

  stops : (service : Service) → Stops s service new → AtMostOneCall s.seen new.seen
  stops service is = inl (ap (λ (t : State). t.seen) is.is ∙ seen_stopped _ service)

  begins : (service : Service) (a : Command Job) (ask : Ask) → BeginsAs ask s service a new → AtMostOneCall s.seen new.seen
  begins service a bad is = rw is (inl refl)
  begins service a (cash ask) is = rw (is.is) (inr (checked s.exchange is.exchange ask is.start is.next is.begins))
  begins service a (card ask) is = rw (is.is) (inl refl)
  begins service a (entry ask) is = rw (is.is) (inl refl)
  begins service a issue is = absurd is
  begins service a clear is = absurd is

  does : (case : working.Case) (service : Service) → Does case s service new → AtMostOneCall s.seen new.seen
  does working.order service is = rw (is.is) (inr (worked is.plan is.left is.went is.next is.works))
  does working.expire service is = rw (is.is) (life_calls s is.ending is.next is.expires)
  does working.answer service is = answers service is
  does working.nonce service is = takes_nonce is
  does working.overdue service is = rw (is.is) (inl refl)
  does working.stop service is = stops service is
  does working.go_on service is = rw (is.is) (inr (worked is.plan is.left is.went is.next is.works))
  does working.begin service is = begins service is.command is.command.job.ask is.begins
  does working.rest service is = rw is (inl refl)

  is_heard : (service : Service) (o : Option (Command Job)) (saying : Saying) → IsHeard s service o saying new → new.seen ≡ s.seen
  is_heard service None saying is = rw is refl
  is_heard service (Some a) saying is = rw (is.is) refl

  card_says_ : (effect : card_reader.Effect) → CardSays s effect new → new.seen ≡ s.seen
  card_says_ card_reader.removed is = rw (is.2) refl
  card_says_ card_reader.nothing is = is_heard Card (running_at s Card) (card_says card_reader.nothing) is
  card_says_ card_reader.ask_insert is = is_heard Card (running_at s Card) (card_says card_reader.ask_insert) is
  card_says_ (card_reader.inserted payload) is = is_heard Card (running_at s Card) (card_says (card_reader.inserted payload)) is
  card_says_ (card_reader.done code payload) is = is_heard Card (running_at s Card) (card_says (card_reader.done code payload)) is

  takes : (k : Connection) (says : Result envelope.Command Refuse) → TakesText s k says new → new.seen ≡ s.seen
  takes k (Err refuse) is = rw (is.is) refl
  takes k (Ok c) is = of_id (is_wrong_id (pending_in k.client (queue_at s k.service)) c.id) is
    where
      of_room : (known : Known) (b : Bool) → MatchBool b (Refuses s k (Some c.id) (Some c.name) TooManyRequests new) (Accepts s k known c new) → new.seen ≡ s.seen
      of_room known true is = rw (is.is) refl
      of_room known false is = rw (is.is) refl

      of_known : (known : Option Known) → TakesOn s k c known new → new.seen ≡ s.seen
      of_known None is = rw (is.is) refl
      of_known (Some known) is = of_room known (is_crowded (queue_at s k.service) k.client) is

      of_id : (b : Bool) → MatchBool b (Refuses s k (Some c.id) (Some c.name) InvalidRequestId new) (TakesOn s k c (known_of k.service c.name) new) → new.seen ≡ s.seen
      of_id true is = rw (is.is) refl
      of_id false is = of_known (known_of k.service c.name) is

takes_notes : (s : State) (told_ : Answer) (new : State) → TakesNotes s told_ new → AtMostOneCall s.seen new.seen
takes_notes s told_ new (shut closed) = inl refl
takes_notes s told_ new (took moved next open_ takes) = inr (taken_ moved false next takes)
takes_notes s told_ new (failed moved next open_ takes) = inr (taken_ moved true next takes)

touches_card : (s : State) (event : CardEvent) (new : State) → TouchesCard s event new → AtMostOneCall s.seen new.seen
touches_card s event new is = let row = card_reader.row_of s.slot event in inl (card_says_ (with_slot s row.next) new row.effect is)

touches_keys : (s : State) (event : KeyEvent) (new : State) → TouchesKeys s event new → AtMostOneCall s.seen new.seen
touches_keys s event new is = let row = keyboard.row_of s.keypad event in inl (is_heard (with_keypad s row.next) new Keys (running_at s Keys) (keyboard_says row.effect) is)

touches : (s : State) (touch : Touch) (told_ : Answer) (new : State) → Touches s touch told_ new → AtMostOneCall s.seen new.seen
touches s (CardIn tracks) told_ new is = touches_card s (card_event.Inserted tracks) new is.1
touches s CardTaken told_ new is = touches_card s card_event.Removed new is.1
touches s CardFault told_ new is = touches_card s card_event.Fault new is.1
touches s (Key key) told_ new is = touches_keys s (key_event.Key key) new is.1
touches s KeyFault told_ new is = touches_keys s key_event.Fault new is.1
touches s NotesTaken told_ new is = takes_notes s told_ new is

posts : (old : State) (pass : Pass) (text : List ℕ) (now : Moment) (new : State) → Posts old pass text now new → new.seen ≡ old.seen
posts old pass text now new is = go (connection_of old pass) is
  where
    go : (o : Option Connection) → MatchOption o (new ≡ old) (λ k. TakesText (at_moment old now) k (command_in text) new) → new.seen ≡ old.seen
    go None is = rw is refl
    go (Some k) is = takes (at_moment old now) new k (command_in text) is

hands : (old : State) (pass : Pass) (frames : List (List ℕ)) (new : State) → HandsOver old pass frames new → new.seen ≡ old.seen
hands old pass frames new is = go (connection_of old pass) is
  where
    go : (o : Option Connection) → MatchOption o ((frames ≡ []) × (new ≡ old)) (λ k. (frames ≡ k.waiting) × (new ≡ record old { connections = map (without_mail k.client) old.connections })) → new.seen ≡ old.seen
    go None is = rw (is.1) refl
    go (Some k) is = rw (is.1) refl

leaves : (old : State) (pass : Pass) (new : State) → DropsClient old pass new → new.seen ≡ old.seen
leaves old pass new is = go (connection_of old pass) is
  where
    go : (o : Option Connection) → MatchOption o (new ≡ old) (λ k. new ≡ left old k) → new.seen ≡ old.seen
    go None is = rw is refl
    go (Some k) is = rw is refl

pub calls : (old : State) (event : Event) (told_ : Answer) (new : State) → IsPlain event → Happens old event told_ new → AtMostOneCall old.seen new.seen
calls old (join service) (joined pass) new plain_ is = rw (is.is) (inl refl)
calls old (join service) full new plain_ is = rw (is.1) (inl refl)
calls old (post pass text now) done new plain_ is = inl (posts old pass text now new is)
calls old (touch it) told_ new plain_ is = touches old it told_ new is
calls old (work service now) told_ new plain_ is = does (at_moment old now) new (case_of (at_moment old now) service) service is.1
calls old (outbox pass) (handed frames) new plain_ is = inl (hands old pass frames new is)
calls old (leave pass) done new plain_ is = inl (leaves old pass new is)
calls old end_ ended new plain_ is = rw is (inl refl)
calls old restart told_ new plain_ is = absurd plain_
calls old finish told_ new plain_ is = absurd plain_
calls old event told_ new plain_ is = absurd is

pub one_call : (old new : State) (event : Event) (told_ : Answer) → IsPlain event → Step old event told_ new → AtMostOneCall old.seen new.seen
one_call old new event told_ plain_ (happens up is) = calls old event told_ new plain_ is
one_call old new event told_ plain_ (wanting is_memory wants) = let u = unmoved old new event wants in rw (u.is) (inr (read u.next u.becomes))
