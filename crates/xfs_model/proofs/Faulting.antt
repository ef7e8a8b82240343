-- Each result hardwareError has its cause.
use Rattle.std.proofs.Common.{◌≡◌, ◌⊎◌, ◌&&◌, ℕ, Bool, true, false, cond, List, [], ◌∷◌, Option, None, Some, Result, Ok, Err, get_or, All, refl, ap, sym, subst, ◌∙◌, inl, inr}
use Rattle.std.specs.Option.{IfSome}
use Rattle.std.proofs.lemmas.Bool.{false≢true, or_right, or_left}
use Rattle.std.proofs.lemmas.List.Folds.{list_any_at}
use Rattle.xfs_base.specs.Causes.{Rose}
use Rattle.xfs_base.specs.declared.counts.Counts.{Counts}
use Rattle.xfs_base.specs.declared.money.NoteKind.{NoteKind}
use Rattle.xfs_base.specs.declared.moment.Moment.{Moment}
use Rattle.xfs_base.specs.declared.moment.Service.{Service}
use Rattle.xfs_base.specs.declared.moment.Service.TheVariants.{Cash}
use Rattle.xfs_card.specs.Slot.{Slot, empty, awaited, inside, at_exit}
use Rattle.xfs_card.specs.Table as card_reader
use Rattle.xfs_card.specs.declared.ask.CardAsk.TheVariants as card_ask
use Rattle.xfs_card.specs.declared.state.CardEvent.{CardEvent}
use Rattle.xfs_card.specs.declared.state.CardEvent.TheVariants as card_event
use Rattle.xfs_dispenser.specs.Answers.{CashAnswer, Start, told, planned, Went, more, done, answer_of, denial, plain_answer}
use Rattle.xfs_dispenser.specs.Begins.{Begins, StartsRefused, StartsUnless, StartsWith}
use Rattle.xfs_dispenser.specs.Plans.{KeepsOutcome}
use Rattle.xfs_dispenser.specs.Seen.{Seen}
use Rattle.xfs_dispenser.specs.Steps.{DoesFirst, DoesPart, IsDenied, Works, WorksOn, onward, settled}
use Rattle.xfs_dispenser.specs.declared.ask.CashAsk.{CashAsk}
use Rattle.xfs_dispenser.specs.declared.ask.CashAsk.TheVariants.{Denominate, Dispense, Present, Reject, Reset, Retract, StartExchange, SetStorage, EndExchange}
use Rattle.xfs_dispenser.specs.declared.part.Part.{Part}
use Rattle.xfs_dispenser.specs.declared.part.Part.TheVariants.{Order, Restore, Load, Note}
use Rattle.xfs_dispenser.specs.declared.plan.Plan.{Plan}
use Rattle.xfs_dispenser.specs.declared.refusal.Refusal.{Refusal}
use Rattle.xfs_dispenser.specs.declared.refusal.Refusal.TheVariants as refusal
use Rattle.xfs_envelope.specs.declared.code.Code.{Code}
use Rattle.xfs_envelope.specs.declared.code.Code.TheVariants.{Canceled, TimeOut, HardwareError}
use Rattle.xfs_guard.specs.declared.deny.Deny.{Deny}
use Rattle.xfs_guard.specs.declared.deny.Deny.TheVariants.{Shut, Full, TooLong, KeyNoValue, Format, NoNonce, WrongNonce, WrongMac, NoAmounts, OtherBound, NotEmpty, OverBudget, Unbound, Nothing, OutletFull, Short, Disk, Memory}
use Rattle.xfs_guard.specs.declared.open.Open.{Open}
use Rattle.xfs_guard.specs.declared.open.Open.TheVariants.{No, Written, Acted}
use Rattle.xfs_keyboard.specs.Entries.{Entry, completion, is_ignored, typed}
use Rattle.xfs_keyboard.specs.Keyboard as keyboard
use Rattle.xfs_keyboard.specs.declared.state.KeyEvent.{KeyEvent}
use Rattle.xfs_keyboard.specs.declared.state.KeyEvent.TheVariants as key_event
use Rattle.xfs_mech.specs.declared.key.KeyName.{KeyName}
use Rattle.xfs_queue.specs.declared.command.Command.{Command}
use Rattle.xfs_queue.specs.declared.command.Ticket.{Ticket}
use Rattle.xfs_queue.specs.Commands.{is_at, is_running, ticket_of}
use Rattle.xfs_model.specs.Cases.{with_start, with_went}
use Rattle.xfs_model.specs.Devices.{Saying, card_says, keyboard_says, with_saying}
use Rattle.xfs_model.specs.Events.{Answer, Event}
use Rattle.xfs_model.specs.Faults.{FaultsHaveCauses, IsFaulted, before, card_fault, has_failed, is_faulted, is_hardware_error, key_fault, mechanism, ran, tells_fault, was_faulted}
use Rattle.xfs_model.specs.Guards.{NonceCommand, cleared_, issued, none_to_clear, refused, uncleared, unissued}
use Rattle.xfs_model.specs.Results.{with_result}
use Rattle.xfs_model.specs.Sound.{IsOnPlan, IsSound}
use Rattle.xfs_model.specs.State.{Ask, Job, Outcome, State, queue_at}
use Rattle.xfs_model.specs.Step.{Step}
use Rattle.xfs_model.proofs.Changes.{at_itself, each}
use Rattle.xfs_model.proofs.Sounds.{at_cash_alone, has_plan}
use Rattle.xfs_model.proofs.Turns.{Speaks, Turn, accepted, at_event, begun, card_begins, card_touched, heard, keys_begin, keys_touched, late, marks, misasked, nonce, seen_at, stays, stopped_running, stopped_waiting, turns, worked}
use Rattle.xfs_model.proofs.Marks.{either}

-- another code
abbrev IsOther : Code → Type 0
IsOther code = is_hardware_error code ≡ false

abbrev Others : Option CashAnswer → Type 0
Others o = IfSome o (λ (a : CashAnswer). IsOther a.code)

of_some : (o : Option CashAnswer) (a : CashAnswer) → o ≡ Some a → Others o → IsOther a.code
of_some o a e h = rw e at h

denied_other : (deny : Deny) → Others (denial deny)
denied_other Shut = refl
denied_other Full = refl
denied_other Disk = refl
denied_other TooLong = refl
denied_other (KeyNoValue place) = refl
denied_other (Format place) = refl
denied_other (NoNonce since) = refl
denied_other (WrongNonce since) = refl
denied_other (WrongMac due) = refl
denied_other NoAmounts = refl
denied_other (OtherBound since) = refl
denied_other (NotEmpty notes) = refl
denied_other (OverBudget currency left) = refl
denied_other (Unbound since) = refl
denied_other Nothing = refl
denied_other (OutletFull notes) = refl
denied_other (Short unit) = refl
denied_other Memory = tt

refused_other : (r : Refusal) → Others (answer_of r)
refused_other refusal.InvalidData = refl
refused_other refusal.NoToken = refl
refused_other (refusal.Error code) = refl
refused_other (refusal.Deny deny) = denied_other deny
refused_other refusal.Memory = tt

-- a command that begins has another result, or a plan that hasn't failed
abbrev StartOther : Start → Type 0
StartOther (told a) = IsOther a.code
StartOther (planned plan) = plan.failed ≡ false

start_is : (start other : Start) → start ≡ other → StartOther other → StartOther start
start_is start other e h = subst StartOther (sym e) h

told_other : (r : Refusal) (start : Start) → StartsRefused r start → StartOther start
told_other r start is = start_is start (told is.answer) is.is (of_some (answer_of r) is.answer is.due (refused_other r))

unless_other : (o : Option Refusal) (otherwise start : Start) → StartOther otherwise → StartsUnless o otherwise start → StartOther start
unless_other None otherwise start own is = start_is start otherwise is own
unless_other (Some r) otherwise start own is = told_other r start is

with_other : {T : Type 0} (result : Result T Refusal) (begin : T → Start) (start : Start) → ((x : T) → StartOther (begin x)) → StartsWith result begin start → StartOther start
with_other (Ok x) begin start own is = start_is start (begin x) is (own x)
with_other (Err r) begin start own is = told_other r start is

begins_other : (s : Seen) (exchange : Bool) (ask : CashAsk) (next : Seen) (after : Bool) (start : Start) → Begins s exchange ask next after start → StartOther start
begins_other s exchange (Denominate notes) next after start is = with_other is.2.given _ start (λ counts. refl) is.2.starts
begins_other s exchange (Dispense notes token) next after start is = with_other is.1.grant _ start (λ l. refl) is.1.starts
begins_other s exchange Present next after start is = unless_other _ _ start refl is.2
begins_other s exchange Reject next after start is = unless_other _ _ start refl is.2
begins_other s exchange Retract next after start is = unless_other _ _ start refl is.2
begins_other s exchange Reset next after start is = unless_other _ _ start refl is.2
begins_other s exchange StartExchange next after start is = unless_other _ _ start refl is.1.1
begins_other s exchange EndExchange next after start is = unless_other _ _ start refl is.1.1
begins_other s exchange (SetStorage added) next after start is = with_other is.2.checked _ start (λ counts. refl) is.2.starts

-- what a step of a plan has come to fails only where the plan had failed, or the count rose
abbrev went_fails : Went → Bool
went_fails more = false
went_fails (done a) = is_hardware_error a.code

abbrev pub Blames : Seen → Plan → Seen → Bool → Type 0
Blames s plan next failed = failed ≡ true → (plan.failed ≡ true) ⊎ Rose s.guard.faults next.guard.faults

blames_none : (s : Seen) (plan : Plan) (next : Seen) (failed : Bool) → failed ≡ false → (failed ≡ true → (plan.failed ≡ true) ⊎ Rose s.guard.faults next.guard.faults)
blames_none s plan next failed none is = absurd (false≢true (sym none ∙ is))

blames_same : (s : Seen) (plan : Plan) (next : Seen) (failed : Bool) → failed ≡ plan.failed → (failed ≡ true → (plan.failed ≡ true) ⊎ Rose s.guard.faults next.guard.faults)
blames_same s plan next failed same is = inl (sym same ∙ is)

went_none : (went other : Went) → went ≡ other → went_fails other ≡ false → went_fails went ≡ false
went_none went other e h = ap went_fails e ∙ h

onward_none : (units : List NoteKind) (notes : Option Counts) (parts : List Part) → went_fails (onward units notes parts) ≡ false
onward_none units None [] = refl
onward_none units (Some counts) [] = refl
onward_none units notes (part ∷ parts) = refl

denied_none : (s : Seen) (first : Option Deny) (next : Seen) (went : Went) → IsDenied s first next went → went_fails went ≡ false
denied_none s first next went is = went_none went (done is.answer) is.is (of_some (denial is.deny) is.answer is.due (denied_other is.deny))

load_fails : (units : List NoteKind) (notes : Option Counts) (parts : List Part) (failed : Bool) → went_fails (cond {A = Went} failed (done (plain_answer HardwareError)) (onward units notes parts)) ≡ failed
load_fails units notes parts true = refl
load_fails units notes parts false = onward_none units notes parts

settled_fails : (units : List NoteKind) (plan : Plan) (failed : Bool) → went_fails (settled units plan failed) ≡ failed
settled_fails units plan true = refl
settled_fails units plan false = onward_none units plan.notes plan.parts.items

-- the answer of a step, and the failure that its plan keeps
record IsBlamed (s : Seen) (plan : Plan) (next : Seen) (after : Plan) (went : Went) : Type 0 where
  went_ : Blames s plan next (went_fails went)
  kept : Blames s plan next after.failed

same_failed : (after plan other : Plan) → after ≡ other → other.failed ≡ plan.failed → after.failed ≡ plan.failed
same_failed after plan other e h = ap (λ (p : Plan). p.failed) e ∙ h

part_blamed : (part : Part) (rest : List Part) (s : Seen) (plan : Plan) (next : Seen) (after : Plan) (went : Went) → DoesPart part rest s plan next after went → IsBlamed s plan next after went
part_blamed (Order ask) rest s plan next after went (inl (w, left, is)) = record { went_ = blames_none s plan next _ (went_none went more is refl); kept = blames_same s plan next _ (same_failed after plan _ left refl) }
part_blamed (Order ask) rest s plan next after went (inr (kept_, inl d)) = record { went_ = blames_none s plan next _ (denied_none s _ next went d); kept = blames_same s plan next _ (same_failed after plan _ kept_ refl) }
part_blamed (Order ask) rest s plan next after went (inr (kept_, inr u)) = record { went_ = blames_none s plan next _ (went_none went _ u.is refl); kept = blames_same s plan next _ (same_failed after plan _ kept_ refl) }
part_blamed Restore rest s plan next after went (inl r) = record { went_ = blames_none s plan next _ (went_none went _ r.is (onward_none s.guard.units plan.notes _)); kept = blames_same s plan next _ (same_failed after plan _ r.left refl) }
part_blamed Restore rest s plan next after went (inr (kept_, is, how)) = record { went_ = blames_none s plan next _ (went_none went _ is refl); kept = blames_same s plan next _ (same_failed after plan _ kept_ refl) }
part_blamed (Load unit count) rest s plan next after went is = record {
  went_ = λ fails. inr (is.called.cause (sym (ap went_fails is.is ∙ load_fails s.guard.units plan.notes rest is.outcome.failed) ∙ fails));
  kept = blames_same s plan next _ (same_failed after plan _ is.left refl);
}
part_blamed (Note unit count) rest s plan next after went (inl (w, left, is)) = record { went_ = blames_none s plan next _ (went_none went _ is (onward_none s.guard.units plan.notes rest)); kept = blames_same s plan next _ (same_failed after plan _ left refl) }
part_blamed (Note unit count) rest s plan next after went (inr (kept_, inl d)) = record { went_ = blames_none s plan next _ (denied_none s _ next went d); kept = blames_same s plan next _ (same_failed after plan _ kept_ refl) }
part_blamed (Note unit count) rest s plan next after went (inr (kept_, inr u)) = record { went_ = blames_none s plan next _ (went_none went _ u.is refl); kept = blames_same s plan next _ (same_failed after plan _ kept_ refl) }

works_blamed : (s : Seen) (plan : Plan) (next : Seen) (after : Plan) (went : Went) → KeepsOutcome s.guard.open_order plan.failed → Works s plan next after went → IsBlamed s plan next after went
works_blamed s plan next after went outcome is = go s.guard.open_order outcome is
  where
    first : (parts : List Part) → DoesFirst parts s plan next after went → IsBlamed s plan next after went
    first [] is = absurd is
    first (part ∷ rest) is = part_blamed part rest s plan next after went is

    go : (o : Open) → KeepsOutcome o plan.failed → WorksOn o s plan next after went → IsBlamed s plan next after went
    go (Written kind counts) outcome is = record {
      went_ = blames_none s plan next _ (went_none went more is.is refl);
      kept = λ fails. inr (is.called.cause (sym (ap (λ (p : Plan). p.failed) is.kept) ∙ fails));
    }
    go (Acted kind moved diverted failed) outcome (kept_, inl i) = record {
      went_ = λ fails. inl (outcome ∙ sym (ap went_fails i.is ∙ settled_fails s.guard.units plan failed) ∙ fails);
      kept = blames_same s plan next _ (same_failed after plan plan kept_ refl);
    }
    go (Acted kind moved diverted failed) outcome (kept_, inr u) = record {
      went_ = blames_none s plan next _ (went_none went _ u.is refl);
      kept = blames_same s plan next _ (same_failed after plan plan kept_ refl);
    }
    go No outcome is = first plan.parts.items is

-- the devices fail only at a fault
fault_of_card : (slot : Slot) (event : CardEvent) → tells_fault (card_says (card_reader.row_of slot event).effect).result ≡ true → event ≡ card_event.Fault
fault_of_card slot card_event.Fault fails = refl
fault_of_card empty (card_event.Begin (card_ask.Read asked)) fails = absurd (false≢true fails)
fault_of_card (awaited tracks) (card_event.Begin (card_ask.Read asked)) fails = absurd (false≢true fails)
fault_of_card (inside card) (card_event.Begin (card_ask.Read asked)) fails = absurd (false≢true fails)
fault_of_card at_exit (card_event.Begin (card_ask.Read asked)) fails = absurd (false≢true fails)
fault_of_card empty (card_event.Begin card_ask.Move) fails = absurd (false≢true fails)
fault_of_card (awaited tracks) (card_event.Begin card_ask.Move) fails = absurd (false≢true fails)
fault_of_card (inside card) (card_event.Begin card_ask.Move) fails = absurd (false≢true fails)
fault_of_card at_exit (card_event.Begin card_ask.Move) fails = absurd (false≢true fails)
fault_of_card empty (card_event.Begin card_ask.Reset) fails = absurd (false≢true fails)
fault_of_card (awaited tracks) (card_event.Begin card_ask.Reset) fails = absurd (false≢true fails)
fault_of_card (inside card) (card_event.Begin card_ask.Reset) fails = absurd (false≢true fails)
fault_of_card at_exit (card_event.Begin card_ask.Reset) fails = absurd (false≢true fails)
fault_of_card empty (card_event.Inserted card) fails = absurd (false≢true fails)
fault_of_card (awaited tracks) (card_event.Inserted card) fails = absurd (false≢true fails)
fault_of_card (inside inner) (card_event.Inserted card) fails = absurd (false≢true fails)
fault_of_card at_exit (card_event.Inserted card) fails = absurd (false≢true fails)
fault_of_card empty card_event.Removed fails = absurd (false≢true fails)
fault_of_card (awaited tracks) card_event.Removed fails = absurd (false≢true fails)
fault_of_card (inside inner) card_event.Removed fails = absurd (false≢true fails)
fault_of_card at_exit card_event.Removed fails = absurd (false≢true fails)
fault_of_card empty card_event.Stop fails = absurd (false≢true fails)
fault_of_card (awaited tracks) card_event.Stop fails = absurd (false≢true fails)
fault_of_card (inside inner) card_event.Stop fails = absurd (false≢true fails)
fault_of_card at_exit card_event.Stop fails = absurd (false≢true fails)

key_quiet : (key : KeyName) (e : Entry) → tells_fault (keyboard_says (keyboard.key_row key e).effect).result ≡ false
key_quiet key e = go (is_ignored key e)
  where
    behind : (o : Option (List ℕ)) → tells_fault (keyboard_says (keyboard.behind_key e.ask key (typed key e.digits) o).effect).result ≡ false
    behind None = refl
    behind (Some code) = refl

    go : (b : Bool) → tells_fault (keyboard_says (cond {A = keyboard.Row} b (keyboard.row keyboard.nothing (Some e)) (keyboard.behind_key e.ask key (typed key e.digits) (completion e.ask key (typed key e.digits)))).effect).result ≡ false
    go true = refl
    go false = behind (completion e.ask key (typed key e.digits))

fault_of_keys : (pad : Option Entry) (event : KeyEvent) → tells_fault (keyboard_says (keyboard.row_of pad event).effect).result ≡ true → event ≡ key_event.Fault
fault_of_keys pad (key_event.Begin ask) fails = absurd (false≢true fails)
fault_of_keys None (key_event.Key key) fails = absurd (false≢true fails)
fault_of_keys (Some e) (key_event.Key key) fails = absurd (false≢true (sym (key_quiet key e) ∙ fails))
fault_of_keys pad key_event.Fault fails = refl
fault_of_keys None key_event.Stop fails = absurd (false≢true fails)
fault_of_keys (Some e) key_event.Stop fails = absurd (false≢true fails)

nonce_other : (s : State) (ask : Ask) (result : Outcome) (next : Seen) (moment : Moment) → NonceCommand s ask result next moment → IsOther result.code
nonce_other s ask result next moment (refused asks unfit) = refl
nonce_other s ask result next moment (issued now fit is) = refl
nonce_other s ask result next moment (unissued now fit is) = refl
nonce_other s ask result next moment (cleared_ now fit live is) = refl
nonce_other s ask result next moment (uncleared now fit live is) = refl
nonce_other s ask result next moment (none_to_clear fit dead) = refl

-- what is known of a command before the step
record IsKnown (old : State) (service : Service) (a : Command Job) : Type 0 where
  faulted : is_faulted a ≡ true → was_faulted old service (ticket_of a) ≡ true
  runs : is_running a.stage ≡ true → ran old service (ticket_of a) ≡ true
  on_plan : service ≡ Cash → IsOnPlan old.seen.guard a

known : (old : State) → All (IsOnPlan old.seen.guard) (queue_at old Cash) → (service : Service) → All (IsKnown old service) (queue_at old service)
known old planned_ service = λ k d within.
    let a = get_or (queue_at old service) k d in
    record {
      faulted = λ fails. list_any_at (λ b. is_at (ticket_of a) b && is_faulted b) (queue_at old service) k d within (rw (at_itself (ticket_of a), fails) refl);
      runs = λ runs_. list_any_at (λ b. is_at (ticket_of a) b && is_running b.stage) (queue_at old service) k d within (rw (at_itself (ticket_of a), runs_) refl);
      on_plan = at_cash_alone old.seen.guard old planned_ service k d within;
    }

-- a plan that failed did so before
plan_before : (a : Command Job) → has_failed a.job.plan ≡ true → is_faulted a ≡ true
plan_before a fails = or_right (tells_fault a.job.outcome) (has_failed a.job.plan) fails

result_before : (a : Command Job) → tells_fault a.job.outcome ≡ true → is_faulted a ≡ true
result_before a fails = or_left (tells_fault a.job.outcome) (has_failed a.job.plan) fails

module _ (old : State) (event : Event) (new : State) (service : Service) where
  -- another result: it was so before by the plan
  by_result : (a : Command Job) (result : Outcome) → IsKnown old service a → IsOther result.code → is_faulted (with_result result a) ≡ true → IsFaulted old event new service (with_result result a)
  by_result a result known_ other fails = elim (either (is_hardware_error result.code) (has_failed a.job.plan) fails) [
    | inl r ↦ absurd (false≢true (sym other ∙ r))
    | inr p ↦ before (known_.faulted (plan_before a p))
  ]

  by_start : (start : Start) (a : Command Job) → IsKnown old service a → StartOther start → is_faulted (with_start start a) ≡ true → IsFaulted old event new service (with_start start a)
  by_start (told answer) a known_ other fails = by_result a _ known_ other fails
  by_start (planned plan) a known_ other fails = elim (either (tells_fault a.job.outcome) plan.failed fails) [
    | inl r ↦ before (known_.faulted (result_before a r))
    | inr p ↦ absurd (false≢true (sym other ∙ p))
  ]

  -- the plan that ran had failed, or the count rose
  blamed : (a b : Command Job) (plan : Plan) → ticket_of b ≡ ticket_of a → IsKnown old service a → service ≡ Cash → is_running a.stage ≡ true → a.job.plan ≡ Some plan
      → (plan.failed ≡ true) ⊎ Rose old.seen.guard.faults new.seen.guard.faults → IsFaulted old event new service b
  blamed a b plan same known_ at runs has (inl failed) = before (subst (λ (t : Ticket). was_faulted old service t ≡ true) (sym same) (known_.faulted (plan_before a (rw has failed))))
  blamed a b plan same known_ at runs has (inr rose) = mechanism at (subst (λ (t : Ticket). ran old service t ≡ true) (sym same) (known_.runs runs)) rose

  by_went : (left : Plan) (b : Bool) (went : Went) (a : Command Job) (plan : Plan) → IsKnown old service a → service ≡ Cash → is_running a.stage ≡ true → a.job.plan ≡ Some plan
      → IsBlamed old.seen plan new.seen left went → is_faulted (with_went left b went a) ≡ true → IsFaulted old event new service (with_went left b went a)
  by_went left b more a plan known_ at runs has is fails = elim (either (tells_fault a.job.outcome) left.failed fails) [
    | inl r ↦ before (known_.faulted (result_before a r))
    | inr p ↦ blamed a (with_went left b more a) plan refl known_ at runs has (is.kept p)
  ]
  by_went left b (done answer) a plan known_ at runs has is fails = elim (either (is_hardware_error answer.code) left.failed fails) [
    | inl r ↦ blamed a (with_went left b (done answer) a) plan refl known_ at runs has (is.went_ r)
    | inr p ↦ blamed a (with_went left b (done answer) a) plan refl known_ at runs has (is.kept p)
  ]

  by_saying : (s : State) (result : Option Outcome) (a : Command Job) → IsKnown old service a → (tells_fault result ≡ true → IsFaulted old event new service (with_saying result a))
      → is_faulted (with_saying result a) ≡ true → IsFaulted old event new service (with_saying result a)
  by_saying s None a known_ says fails = before (known_.faulted fails)
  by_saying s (Some result) a known_ says fails = elim (either (is_hardware_error result.code) (has_failed a.job.plan) fails) [
    | inl r ↦ says r
    | inr p ↦ before (known_.faulted (plan_before a p))
  ]

  ticket_said : (result : Option Outcome) (a : Command Job) → ticket_of (with_saying result a) ≡ ticket_of a
  ticket_said None a = refl
  ticket_said (Some result) a = refl

  speaks_fault : (s : State) (a : Command Job) (saying : Saying) → Speaks s event service a saying → IsKnown old service a → tells_fault saying.result ≡ true → IsFaulted old event new service (with_saying saying.result a)
  speaks_fault s a saying (card_begins waits ask) known_ fails = absurd (begin_card (fault_of_card s.slot (card_event.Begin ask) fails))
    where
      begin_card : card_event.Begin ask ≡ card_event.Fault → ⊥
      begin_card e = cc
  speaks_fault s a saying (keys_begin waits ask) known_ fails = absurd (begin_keys (fault_of_keys s.keypad (key_event.Begin ask) fails))
    where
      begin_keys : key_event.Begin ask ≡ key_event.Fault → ⊥
      begin_keys e = cc
  speaks_fault s a saying (card_touched at runs touched fault) known_ fails = card_fault at (subst (λ (t : Ticket). ran old service t ≡ true) (sym (ticket_said (card_says (card_reader.row_of s.slot touched).effect).result a)) (known_.runs runs)) (fault (fault_of_card s.slot touched fails))
  speaks_fault s a saying (keys_touched at runs touched fault) known_ fails = key_fault at (subst (λ (t : Ticket). ran old service t ≡ true) (sym (ticket_said (keyboard_says (keyboard.row_of s.keypad touched).effect).result a)) (known_.runs runs)) (fault (fault_of_keys s.keypad touched fails))

  turn_faulted : (s : State) → s.seen ≡ old.seen → (b : Command Job) → Turn s event new (IsKnown old service) service b → is_faulted b ≡ true → IsFaulted old event new service b
  turn_faulted s same b (stays a known_ still) fails = before (known_.faulted fails)
  turn_faulted s same b (marks a holds known_ still) fails = before (known_.faulted fails)
  turn_faulted s same b (accepted client id line timeout name payload ask has asks) fails = absurd (false≢true fails)
  turn_faulted s same b (stopped_waiting a holds known_ waits marked) fails = before (known_.faulted (plan_before a fails))
  turn_faulted s same b (late a known_ waits due) fails = by_result a _ known_ refl fails
  turn_faulted s same b (stopped_running a known_ runs stops) fails = by_result a _ known_ (stopping a.marked) fails
    where
      stopping : (b : Bool) → IsOther (cond b Canceled TimeOut)
      stopping true = refl
      stopping false = refl
  turn_faulted s same b (nonce a known_ waits at result does) fails = by_result a result known_ (nonce_other s a.job.ask result new.seen new.issued does) fails
  turn_faulted s same b (misasked a known_ waits asks) fails = by_result a _ known_ refl fails
  turn_faulted s same b (begun a known_ waits none here ask asks start begins) fails = by_start start a known_ (begins_other s.seen s.exchange ask new.seen new.exchange start begins) fails
  turn_faulted s same b (worked a known_ runs at plan left has went works) fails =
      let planned_ = has_plan old.seen.guard a.job.plan plan has (known_.on_plan at runs) in
      by_went left _ went a plan known_ at runs has (works_blamed old.seen plan new.seen left went planned_.outcome (subst (λ (x : Seen). Works x plan new.seen left went) same works)) fails
  turn_faulted s same b (heard a known_ elsewhere saying speaks) fails = by_saying s saying.result a known_ (speaks_fault s a saying speaks known_) fails

pub faults_have_causes : (old new : State) (event : Event) (told_ : Answer) → IsSound old → Step old event told_ new → FaultsHaveCauses old event new
faults_have_causes old new event told_ sound is = λ service.
    each (Turn (at_event old event) event new (IsKnown old service) service) (λ b. is_faulted b ≡ true → IsFaulted old event new service b)
    (λ b turn. turn_faulted old event new service (at_event old event) (seen_at old event) b turn) (queue_at new service)
    (turns (IsKnown old) old sound.machine sound.asks (known old sound.planned) event told_ new is service)
