-- Each result deviceNotReady has its cause.
use Rattle.std.proofs.Common.{◌≡◌, ◌⊎◌, ◌&&◌, Bool, true, false, cond, List, [], ◌∷◌, Option, None, Some, Result, Ok, Err, is_none, get_or, All, refl, sym, subst, ◌∙◌, inl, inr}
use Rattle.std.specs.Option.{IfSome, option_or}
use Rattle.std.proofs.lemmas.Bool.{false≢true}
use Rattle.std.proofs.lemmas.List.Folds.{list_any_at}
use Rattle.xfs_base.specs.Causes.{Rose}
use Rattle.xfs_base.specs.declared.counts.Counts.{Counts}
use Rattle.xfs_base.specs.declared.money.NoteKind.{NoteKind}
use Rattle.xfs_base.specs.declared.moment.Moment.{Moment}
use Rattle.xfs_base.specs.declared.moment.Service.{Service}
use Rattle.xfs_base.specs.declared.moment.Service.TheVariants.{Cash}
use Rattle.xfs_card.specs.Slot.{Slot, empty, awaited, inside, at_exit}
use Rattle.xfs_card.specs.Table as card_reader
use Rattle.xfs_card.specs.declared.ask.CardAsk.TheVariants as card_ask
use Rattle.xfs_card.specs.declared.state.CardEvent.{CardEvent}
use Rattle.xfs_card.specs.declared.state.CardEvent.TheVariants as card_event
use Rattle.xfs_dispenser.specs.Answers.{CashAnswer, Start, told, planned, Went, more, done, answer_of, denial, plain_answer}
use Rattle.xfs_dispenser.specs.Begins.{Begins, StartsRefused, StartsUnless, StartsWith}
use Rattle.xfs_dispenser.specs.Seen.{Seen}
use Rattle.xfs_dispenser.specs.Steps.{DoesFirst, DoesPart, IsDenied, Works, WorksOn, onward, settled}
use Rattle.xfs_dispenser.specs.declared.ask.CashAsk.{CashAsk}
use Rattle.xfs_dispenser.specs.declared.ask.CashAsk.TheVariants.{Denominate, Dispense, Present, Reject, Reset, Retract, StartExchange, SetStorage, EndExchange}
use Rattle.xfs_dispenser.specs.declared.part.Part.{Part}
use Rattle.xfs_dispenser.specs.declared.part.Part.TheVariants.{Order, Restore, Load, Note}
use Rattle.xfs_dispenser.specs.declared.plan.Plan.{Plan}
use Rattle.xfs_dispenser.specs.declared.refusal.Refusal.{Refusal}
use Rattle.xfs_envelope.specs.declared.code.Code.TheVariants.{Canceled, TimeOut, HardwareError}
use Rattle.xfs_guard.specs.Fits.{unfit as unfit_for}
use Rattle.xfs_guard.specs.Refusals.{order_refusal}
use Rattle.xfs_guard.specs.View.{View}
use Rattle.xfs_guard.specs.declared.deny.Deny.{Deny}
use Rattle.xfs_guard.specs.declared.deny.Deny.TheVariants.{Shut, Full, TooLong, KeyNoValue, Format, NoNonce, WrongNonce, WrongMac, NoAmounts, OtherBound, NotEmpty, OverBudget, Unbound, Nothing, OutletFull, Short, Disk, Memory}
use Rattle.xfs_guard.specs.declared.open.Open.{Open}
use Rattle.xfs_guard.specs.declared.open.Open.TheVariants.{No, Written, Acted}
use Rattle.xfs_journal.specs.declared.record.Rec.{Rec}
use Rattle.xfs_keyboard.specs.Keyboard as keyboard
use Rattle.xfs_keyboard.specs.declared.state.KeyEvent.TheVariants as key_event
use Rattle.xfs_queue.specs.declared.command.Command.{Command}
use Rattle.xfs_queue.specs.Commands.{is_at, ticket_of}
use Rattle.xfs_model.specs.Cases.{with_start, with_went}
use Rattle.xfs_model.specs.Devices.{Saying, card_says, keyboard_says, with_saying}
use Rattle.xfs_model.specs.Events.{Answer, Event}
use Rattle.xfs_model.specs.Faults.{IsRefused, RefusalsHaveCauses, disk, is_not_ready, is_refused, so_before, unfit, unrestored, was_refused}
use Rattle.xfs_model.specs.Guards.{IsUnrestored, NonceCommand, cleared_, is_fit, issued, none_to_clear, refused, uncleared, unissued}
use Rattle.xfs_model.specs.Results.{with_result}
use Rattle.xfs_model.specs.Sound.{IsSound}
use Rattle.xfs_model.specs.State.{Ask, Job, Outcome, State, queue_at}
use Rattle.xfs_model.specs.Step.{Step}
use Rattle.xfs_model.proofs.Changes.{at_itself, each}
use Rattle.xfs_model.proofs.Denials.{IsGood, Marked, OwnDeny, active_good, denominate_good, inactive_good, grant_good, order_marked, storage_good, of_some}
use Rattle.xfs_model.proofs.Turns.{Speaks, Turn, accepted, at_event, begun, card_begins, card_touched, heard, keys_begin, keys_touched, late, marks, misasked, nonce, seen_at, stays, stopped_running, stopped_waiting, turns, worked}

-- why the guard gave that answer
abbrev pub IsBarred : Seen → Seen → Type 0
IsBarred s next = (is_fit s ≡ false) ⊎ (Rose s.disk_faults next.disk_faults ⊎ IsUnrestored s next)

-- a refusal of its own check is another answer
own_ready : (records : List Rec) (deny : Deny) → OwnDeny records deny → IfSome (denial deny) (λ (a : CashAnswer). is_not_ready a.code ≡ false)
own_ready records Shut own = absurd own
own_ready records Full own = absurd own
own_ready records Disk own = absurd own
own_ready records TooLong own = refl
own_ready records (KeyNoValue place) own = refl
own_ready records (Format place) own = refl
own_ready records (NoNonce since) own = refl
own_ready records (WrongNonce since) own = refl
own_ready records (WrongMac due) own = refl
own_ready records NoAmounts own = refl
own_ready records (OtherBound since) own = refl
own_ready records (NotEmpty notes) own = refl
own_ready records (OverBudget currency left) own = refl
own_ready records (Unbound since) own = refl
own_ready records Nothing own = refl
own_ready records (OutletFull notes) own = refl
own_ready records (Short unit) own = refl
own_ready records Memory own = tt

-- an unfit journal is not fit
unfit_is : (v : View) (deny : Deny) → unfit_for v ≡ Some deny → is_none (unfit_for v) ≡ false
unfit_is v deny e = rw e refl

-- what an answer blames
abbrev WentBars : Seen → Seen → Went → Type 0
WentBars s next more = Unit {0}
WentBars s next (done a) = is_not_ready a.code ≡ true → IsBarred s next

went_is : (s next : Seen) (went other : Went) → went ≡ other → WentBars s next other → WentBars s next went
went_is s next went other e h = subst (WentBars s next) (sym e) h

onward_bars : (s next : Seen) (units : List NoteKind) (notes : Option Counts) (parts : List Part) → WentBars s next (onward units notes parts)
onward_bars s next units None [] = λ e. absurd (false≢true e)
onward_bars s next units (Some counts) [] = λ e. absurd (false≢true e)
onward_bars s next units notes (part ∷ parts) = tt

settled_bars : (s next : Seen) (plan : Plan) (failed : Bool) → WentBars s next (settled s.guard.units plan failed)
settled_bars s next plan true = λ e. absurd (false≢true e)
settled_bars s next plan false = onward_bars s next s.guard.units plan.notes plan.parts.items

load_bars : (s next : Seen) (units : List NoteKind) (notes : Option Counts) (parts : List Part) (failed : Bool) → WentBars s next (cond {A = Went} failed (done (plain_answer HardwareError)) (onward units notes parts))
load_bars s next units notes parts true = λ e. absurd (false≢true e)
load_bars s next units notes parts false = onward_bars s next units notes parts

-- a refusal that comes behind that of the journal
denied_bars : (s : Seen) (own : Option Deny) (next : Seen) (went : Went) → Marked s.guard.records own → IsDenied s (option_or (unfit_for s.guard) own) next went → WentBars s next went
denied_bars s own next went marked is = went_is s next went (done is.answer) is.is (λ e. go (unfit_for s.guard) refl is.first e)
  where
    go : (o : Option Deny) → unfit_for s.guard ≡ o → option_or o own ≡ Some is.deny → is_not_ready is.answer.code ≡ true → IsBarred s next
    go (Some deny) unfit_ first e = inl (unfit_is s.guard deny unfit_)
    go None fit first e = absurd (false≢true (sym (of_some (λ (a : CashAnswer). is_not_ready a.code ≡ false) (denial is.deny) is.answer is.due (own_ready s.guard.records is.deny (of_some (OwnDeny s.guard.records) own is.deny first marked))) ∙ e))

-- a refusal of the journal alone
unfit_bars : (s next : Seen) (went : Went) → IsDenied s (unfit_for s.guard) next went → WentBars s next went
unfit_bars s next went is = went_is s next went (done is.answer) is.is (λ e. inl (unfit_is s.guard is.deny is.first))

part_bars : (part : Part) (rest : List Part) (s : Seen) (plan : Plan) (next : Seen) (left : Plan) (went : Went) → DoesPart part rest s plan next left went → WentBars s next went
part_bars (Order ask) rest s plan next left went (inl is) = went_is s next went more is.2 tt
part_bars (Order ask) rest s plan next left went (inr (kept, inl d)) = denied_bars s (order_refusal s.guard ask) next went (order_marked s.guard ask) d
part_bars (Order ask) rest s plan next left went (inr (kept, inr u)) = went_is s next went _ u.is (λ e. inr (inl u.fails.cause))
part_bars Restore rest s plan next left went (inl is) = went_is s next went _ is.is (onward_bars s next s.guard.units plan.notes _)
part_bars Restore rest s plan next left went (inr (kept, is, how)) = went_is s next went _ is (λ e. inr (inr how))
part_bars (Load unit count) rest s plan next left went is = went_is s next went _ is.is (load_bars s next s.guard.units plan.notes rest is.outcome.failed)
part_bars (Note unit count) rest s plan next left went (inl is) = went_is s next went _ is.2 (onward_bars s next s.guard.units plan.notes rest)
part_bars (Note unit count) rest s plan next left went (inr (kept, inl d)) = unfit_bars s next went d
part_bars (Note unit count) rest s plan next left went (inr (kept, inr u)) = went_is s next went _ u.is (λ e. inr (inl u.fails.cause))

works_bars : (s : Seen) (plan : Plan) (next : Seen) (left : Plan) (went : Went) → Works s plan next left went → WentBars s next went
works_bars s plan next left went is = go s.guard.open_order is
  where
    first : (parts : List Part) → DoesFirst parts s plan next left went → WentBars s next went
    first [] is = absurd is
    first (part ∷ rest) is = part_bars part rest s plan next left went is

    go : (o : Open) → WorksOn o s plan next left went → WentBars s next went
    go (Written kind counts) is = went_is s next went more is.is tt
    go (Acted kind moved diverted failed) (kept, inl i) = went_is s next went _ i.is (settled_bars s next plan failed)
    go (Acted kind moved diverted failed) (kept, inr u) = went_is s next went _ u.is (λ e. inr (inl u.cause))
    go No is = first plan.parts.items is

-- a begin
abbrev StartBars : Seen → Seen → Start → Type 0
StartBars s next (told a) = is_not_ready a.code ≡ true → IsBarred s next
StartBars s next (planned plan) = Unit {0}

abbrev Bars : Seen → Seen → Refusal → Type 0
Bars s next r = IfSome (answer_of r) (λ (a : CashAnswer). is_not_ready a.code ≡ true → IsBarred s next)

always : (s next : Seen) (o : Option CashAnswer) → IsBarred s next → IfSome o (λ (a : CashAnswer). is_not_ready a.code ≡ true → IsBarred s next)
always s next None barred = tt
always s next (Some a) barred = λ e. barred

never : (s next : Seen) (o : Option CashAnswer) → IfSome o (λ (a : CashAnswer). is_not_ready a.code ≡ false) → IfSome o (λ (a : CashAnswer). is_not_ready a.code ≡ true → IsBarred s next)
never s next None h = tt
never s next (Some a) h = λ e. absurd (false≢true (sym h ∙ e))

bars_good : (s next : Seen) → IsGood s.guard (Bars s next)
bars_good s next = record {
  invalid = λ e. absurd (false≢true e);
  no_token = λ e. absurd (false≢true e);
  error = λ code e. absurd (false≢true e);
  barred = λ deny e. always s next (denial deny) (inl (unfit_is s.guard deny e));
  own = λ deny own. never s next (denial deny) (own_ready s.guard.records deny own);
}

start_is : (s next : Seen) (start other : Start) → start ≡ other → StartBars s next other → StartBars s next start
start_is s next start other e h = subst (StartBars s next) (sym e) h

told_bars : (s next : Seen) (r : Refusal) (start : Start) → Bars s next r → StartsRefused r start → StartBars s next start
told_bars s next r start h is = start_is s next start (told is.answer) is.is (of_some (λ (a : CashAnswer). is_not_ready a.code ≡ true → IsBarred s next) (answer_of r) is.answer is.due h)

unless_bars : (s next : Seen) (o : Option Refusal) (otherwise start : Start) → IfSome o (Bars s next) → StartBars s next otherwise → StartsUnless o otherwise start → StartBars s next start
unless_bars s next None otherwise start h own is = start_is s next start otherwise is own
unless_bars s next (Some r) otherwise start h own is = told_bars s next r start h is

with_bars : {T : Type 0} (s next : Seen) (result : Result T Refusal) (begin : T → Start) (start : Start) → ((r : Refusal) → result ≡ Err r → Bars s next r) → ((x : T) → StartBars s next (begin x)) → StartsWith result begin start → StartBars s next start
with_bars s next (Ok x) begin start h own is = start_is s next start (begin x) is (own x)
with_bars s next (Err r) begin start h own is = told_bars s next r start (h r refl) is

begins_bars : (s : Seen) (exchange : Bool) (ask : CashAsk) (next : Seen) (after : Bool) (start : Start) → Begins s exchange ask next after start → StartBars s next start
begins_bars s exchange (Denominate notes) next after start is =
    with_bars s next is.2.given _ start (denominate_good s.guard (Bars s next) (bars_good s next) notes is.2.given is.2.checks) (λ counts e. absurd (false≢true e)) is.2.starts
begins_bars s exchange (Dispense notes token) next after start is =
    with_bars s next is.1.grant _ start (grant_good s (Bars s next) (bars_good s next) next (λ rose e. inr (inl rose)) exchange notes token is.1.checked is.1.grant is.1.checks is.1.permits) (λ l. tt) is.1.starts
begins_bars s exchange Present next after start is = unless_bars s next _ _ start (active_good s.guard (Bars s next) (bars_good s next) exchange) tt is.2
begins_bars s exchange Reject next after start is = unless_bars s next _ _ start (active_good s.guard (Bars s next) (bars_good s next) exchange) tt is.2
begins_bars s exchange Retract next after start is = unless_bars s next _ _ start (active_good s.guard (Bars s next) (bars_good s next) exchange) tt is.2
begins_bars s exchange Reset next after start is = unless_bars s next _ _ start (active_good s.guard (Bars s next) (bars_good s next) exchange) tt is.2
begins_bars s exchange StartExchange next after start is = unless_bars s next _ _ start (active_good s.guard (Bars s next) (bars_good s next) exchange) (λ e. absurd (false≢true e)) is.1.1
begins_bars s exchange EndExchange next after start is = unless_bars s next _ _ start (inactive_good s.guard (Bars s next) (bars_good s next) exchange) (λ e. absurd (false≢true e)) is.1.1
begins_bars s exchange (SetStorage added) next after start is =
    with_bars s next is.2.checked _ start (storage_good s.guard (Bars s next) (bars_good s next) exchange added is.2.checked is.2.checks) (λ counts. tt) is.2.starts

-- a nonce command
nonce_bars : (s : State) (ask : Ask) (result : Outcome) (next : Seen) (moment : Moment) → NonceCommand s ask result next moment → is_not_ready result.code ≡ true → IsBarred s.seen next
nonce_bars s ask result next moment (refused asks unfit_) e = inl unfit_
nonce_bars s ask result next moment (issued now fit is) e = absurd (false≢true e)
nonce_bars s ask result next moment (unissued now fit is) e = inr (inl is.cause)
nonce_bars s ask result next moment (cleared_ now fit live is) e = absurd (false≢true e)
nonce_bars s ask result next moment (uncleared now fit live is) e = inr (inl is.cause)
nonce_bars s ask result next moment (none_to_clear fit dead) e = absurd (false≢true e)

-- the devices don't answer so
card_ready : (slot : Slot) (event : CardEvent) → is_refused (card_says (card_reader.row_of slot event).effect).result ≡ false
card_ready empty (card_event.Begin (card_ask.Read asked)) = refl
card_ready (awaited tracks) (card_event.Begin (card_ask.Read asked)) = refl
card_ready (inside card) (card_event.Begin (card_ask.Read asked)) = refl
card_ready at_exit (card_event.Begin (card_ask.Read asked)) = refl
card_ready empty (card_event.Begin card_ask.Move) = refl
card_ready (awaited tracks) (card_event.Begin card_ask.Move) = refl
card_ready (inside card) (card_event.Begin card_ask.Move) = refl
card_ready at_exit (card_event.Begin card_ask.Move) = refl
card_ready empty (card_event.Begin card_ask.Reset) = refl
card_ready (awaited tracks) (card_event.Begin card_ask.Reset) = refl
card_ready (inside card) (card_event.Begin card_ask.Reset) = refl
card_ready at_exit (card_event.Begin card_ask.Reset) = refl
card_ready empty (card_event.Inserted card) = refl
card_ready (awaited tracks) (card_event.Inserted card) = refl
card_ready (inside inner) (card_event.Inserted card) = refl
card_ready at_exit (card_event.Inserted card) = refl
card_ready empty card_event.Removed = refl
card_ready (awaited tracks) card_event.Removed = refl
card_ready (inside inner) card_event.Removed = refl
card_ready at_exit card_event.Removed = refl
card_ready empty card_event.Fault = refl
card_ready (awaited tracks) card_event.Fault = refl
card_ready (inside inner) card_event.Fault = refl
card_ready at_exit card_event.Fault = refl
card_ready empty card_event.Stop = refl
card_ready (awaited tracks) card_event.Stop = refl
card_ready (inside inner) card_event.Stop = refl
card_ready at_exit card_event.Stop = refl

effect_ready : (effect : keyboard.Effect) → is_refused (keyboard_says effect).result ≡ false
effect_ready keyboard.nothing = refl
effect_ready (keyboard.told key) = refl
effect_ready (keyboard.ended key payload) = refl
effect_ready keyboard.failed = refl

speaks_ready : (s : State) (event : Event) (service : Service) (a : Command Job) (saying : Saying) → Speaks s event service a saying → is_refused saying.result ≡ false
speaks_ready s event service a saying (card_begins waits ask) = card_ready s.slot (card_event.Begin ask)
speaks_ready s event service a saying (keys_begin waits ask) = effect_ready (keyboard.row_of s.keypad (key_event.Begin ask)).effect
speaks_ready s event service a saying (card_touched at runs touched fault) = card_ready s.slot touched
speaks_ready s event service a saying (keys_touched at runs touched fault) = effect_ready (keyboard.row_of s.keypad touched).effect

-- what is known of a command before the step
abbrev IsKnown : State → Service → Command Job → Type 0
IsKnown old service a = is_refused a.job.outcome ≡ true → was_refused old service (ticket_of a) ≡ true

known : (old : State) (service : Service) → All (IsKnown old service) (queue_at old service)
known old service = λ k d within refused_.
    let a = get_or (queue_at old service) k d in
    list_any_at (λ b. is_at (ticket_of a) b && is_refused b.job.outcome) (queue_at old service) k d within (rw (at_itself (ticket_of a), refused_) refl)

module _ (old new : State) (service : Service) where
  barred : (b : Command Job) → service ≡ Cash → IsBarred old.seen new.seen → IsRefused old new service b
  barred b at (inl unfit_) = unfit at unfit_
  barred b at (inr (inl rose)) = disk at rose
  barred b at (inr (inr how)) = unrestored at how

  by_start : (start : Start) (a : Command Job) → IsKnown old service a → service ≡ Cash → StartBars old.seen new.seen start → is_refused (with_start start a).job.outcome ≡ true → IsRefused old new service (with_start start a)
  by_start (told answer) a known_ at bars refused_ = barred (with_start (told answer) a) at (bars refused_)
  by_start (planned plan) a known_ at bars refused_ = so_before (known_ refused_)

  by_went : (left : Plan) (b : Bool) (went : Went) (a : Command Job) → IsKnown old service a → service ≡ Cash → WentBars old.seen new.seen went → is_refused (with_went left b went a).job.outcome ≡ true → IsRefused old new service (with_went left b went a)
  by_went left b more a known_ at bars refused_ = so_before (known_ refused_)
  by_went left b (done answer) a known_ at bars refused_ = barred (with_went left b (done answer) a) at (bars refused_)

  by_saying : (result : Option Outcome) (a : Command Job) → IsKnown old service a → is_refused result ≡ false → is_refused (with_saying result a).job.outcome ≡ true → IsRefused old new service (with_saying result a)
  by_saying None a known_ ready refused_ = so_before (known_ refused_)
  by_saying (Some result) a known_ ready refused_ = absurd (false≢true (sym ready ∙ refused_))

  stopping : (b : Bool) → is_not_ready (cond b Canceled TimeOut) ≡ true → ⊥
  stopping true e = false≢true e
  stopping false e = false≢true e

  turn_refused : (event : Event) (s : State) → s.seen ≡ old.seen → (b : Command Job) → Turn s event new (IsKnown old service) service b
      → is_refused b.job.outcome ≡ true → IsRefused old new service b
  turn_refused event s same b (stays a known_ still) e = so_before (known_ e)
  turn_refused event s same b (marks a holds known_ still) e = so_before (known_ e)
  turn_refused event s same b (accepted client id line timeout name payload ask has asks) e = absurd (false≢true e)
  turn_refused event s same b (stopped_waiting a holds known_ waits marked) e = absurd (false≢true e)
  turn_refused event s same b (late a known_ waits due) e = absurd (false≢true e)
  turn_refused event s same b (stopped_running a known_ runs stops) e = absurd (stopping a.marked e)
  turn_refused event s same b (nonce a known_ waits at result does) e = barred (with_result result a) at (rw same at (nonce_bars s a.job.ask result new.seen new.issued does e))
  turn_refused event s same b (misasked a known_ waits asks) e = absurd (false≢true e)
  turn_refused event s same b (begun a known_ waits none at ask asks start begins) e = by_start start a known_ at (subst (λ (x : Seen). StartBars x new.seen start) same (begins_bars s.seen s.exchange ask new.seen new.exchange start begins)) e
  turn_refused event s same b (worked a known_ runs at plan left has went works) e = by_went left _ went a known_ at (subst (λ (x : Seen). WentBars x new.seen went) same (works_bars s.seen plan new.seen left went works)) e
  turn_refused event s same b (heard a known_ elsewhere saying speaks) e = by_saying saying.result a known_ (speaks_ready s event service a saying speaks) e

pub refusals_have_causes : (old new : State) (event : Event) (told_ : Answer) → IsSound old → Step old event told_ new → RefusalsHaveCauses old new
refusals_have_causes old new event told_ sound is = λ service.
    each (Turn (at_event old event) event new (IsKnown old service) service) (λ b. is_refused b.job.outcome ≡ true → IsRefused old new service b)
    (λ b turn. turn_refused old new service event (at_event old event) (seen_at old event) b turn) (queue_at new service)
    (turns (IsKnown old) old sound.machine sound.asks (known old) event told_ new is service)
