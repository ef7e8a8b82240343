-- Each result success has its cause; and each order that is open follows from what was before.
use Rattle.std.proofs.Common.{◌≡◌, ◌⊎◌, Result, Ok, Err, ◌&&◌, Bool, true, false, cond, List, [], ◌∷◌, Option, None, Some, get_or, All, refl, ap, sym, subst, ◌∙◌, inl, inr}
use Rattle.std.specs.Option.{IfSome}
use Rattle.std.proofs.lemmas.Bool.{false≢true}
use Rattle.std.proofs.lemmas.List.Folds.{list_any_at}
use Rattle.xfs_base.specs.declared.counts.Counts.{Counts}
use Rattle.xfs_base.specs.declared.money.NoteKind.{NoteKind}
use Rattle.xfs_base.specs.declared.moment.Service.{Service}
use Rattle.xfs_base.specs.declared.moment.Service.TheVariants.{Cash}
use Rattle.xfs_dispenser.specs.Answers.{CashAnswer, Start, told, planned, Went, more, done, answer_of, denial, plain_answer}
use Rattle.xfs_dispenser.specs.Begins.{Begins, StartsRefused, StartsUnless, StartsWith}
use Rattle.xfs_dispenser.specs.Checks.{active_refusal}
use Rattle.xfs_dispenser.specs.Plans.{dispense_plan, order_plan, reset_plan, storage_plan}
use Rattle.xfs_dispenser.specs.Seen.{Seen}
use Rattle.xfs_dispenser.specs.Steps.{DoesFirst, DoesPart, IsDenied, Works, WorksOn, onward}
use Rattle.xfs_dispenser.specs.declared.ask.CashAsk.{CashAsk}
use Rattle.xfs_dispenser.specs.declared.ask.CashAsk.TheVariants.{Denominate, Dispense, Present, Reject, Reset, Retract, StartExchange, SetStorage, EndExchange}
use Rattle.xfs_dispenser.specs.declared.part.Part.{Part}
use Rattle.xfs_dispenser.specs.declared.part.Part.TheVariants.{Order, Restore, Load, Note}
use Rattle.xfs_dispenser.specs.declared.plan.Plan.{Plan}
use Rattle.xfs_dispenser.specs.declared.refusal.Refusal.{Refusal}
use Rattle.xfs_dispenser.specs.declared.refusal.Refusal.TheVariants as refusals
use Rattle.xfs_guard.specs.declared.ask.Ask.TheVariants as asks
use Rattle.xfs_base.specs.declared.moment.Moment.{Moment}
use Rattle.xfs_model.specs.Guards.{NonceCommand, refused, issued, unissued, cleared_, uncleared, none_to_clear}
use Rattle.xfs_envelope.specs.declared.code.Code.TheVariants.{Canceled, HardwareError, TimeOut}
use Rattle.xfs_guard.specs.declared.deny.Deny.{Deny}
use Rattle.xfs_guard.specs.declared.deny.Deny.TheVariants.{Shut, Full, TooLong, KeyNoValue, Format, NoNonce, WrongNonce, WrongMac, NoAmounts, OtherBound, NotEmpty, OverBudget, Unbound, Nothing, OutletFull, Short, Disk, Memory}
use Rattle.xfs_guard.specs.declared.open.Open.{Open}
use Rattle.xfs_guard.specs.declared.open.Open.TheVariants.{No, Written, Acted}
use Rattle.xfs_queue.specs.declared.command.Command.{Command}
use Rattle.xfs_queue.specs.Commands.{is_at, ticket_of}
use Rattle.xfs_model.specs.Cases.{with_start, with_went}
use Rattle.xfs_model.specs.Events.{Answer, Event}
use Rattle.xfs_model.specs.Sound.{IsFresh, IsSound}
use Rattle.xfs_model.specs.State.{Ask, cash, clear, issue, Job, Outcome, State, queue_at}
use Rattle.xfs_model.specs.Step.{Step}
use Rattle.xfs_model.specs.Successes.{IsDoneAtOnce, IsEarned, IsInFull, SuccessesHaveCauses, at_once, by_device, earned_before, had_succeeded, has_succeeded, in_full, is_success}
use Rattle.xfs_model.proofs.Changes.{at_itself, each}
use Rattle.xfs_model.proofs.Turns.{Turn, accepted, at_event, begun, heard, late, marks, misasked, nonce, seen_at, stays, stopped_running, stopped_waiting, turns, worked}

-- a refusal is no success
pub denied_fails : (deny : Deny) → IfSome (denial deny) (λ (a : CashAnswer). is_success a.code ≡ false)
denied_fails Shut = refl
denied_fails Full = refl
denied_fails Disk = refl
denied_fails TooLong = refl
denied_fails (KeyNoValue place) = refl
denied_fails (Format place) = refl
denied_fails (NoNonce since) = refl
denied_fails (WrongNonce since) = refl
denied_fails (WrongMac due) = refl
denied_fails NoAmounts = refl
denied_fails (OtherBound since) = refl
denied_fails (NotEmpty notes) = refl
denied_fails (OverBudget currency left) = refl
denied_fails (Unbound since) = refl
denied_fails Nothing = refl
denied_fails (OutletFull notes) = refl
denied_fails (Short unit) = refl
denied_fails Memory = tt

refused_fails : (refusal : Refusal) → IfSome (answer_of refusal) (λ (a : CashAnswer). is_success a.code ≡ false)
refused_fails refusals.InvalidData = refl
refused_fails refusals.NoToken = refl
refused_fails (refusals.Error fault) = refl
refused_fails (refusals.Deny deny) = denied_fails deny
refused_fails refusals.Memory = tt

pub of_some : (o : Option CashAnswer) (a : CashAnswer) → o ≡ Some a → IfSome o (λ (b : CashAnswer). is_success b.code ≡ false) → is_success a.code ≡ false
of_some o a e h = rw e at h

-- what is told as a command begins that has a plan otherwise is no success
abbrev pub IsNoSuccess : Start → Type 0
IsNoSuccess (told answer) = is_success answer.code ≡ false
IsNoSuccess (planned plan) = Unit {0}

told_no : (refusal : Refusal) (start : Start) → StartsRefused refusal start → IsNoSuccess start
told_no refusal start is = subst IsNoSuccess (sym is.is) (of_some (answer_of refusal) is.answer is.due (refused_fails refusal))

unless_no : (refusal : Option Refusal) (plan : Plan) (start : Start) → StartsUnless refusal (planned plan) start → IsNoSuccess start
unless_no (Some refusal) plan start is = told_no refusal start is
unless_no None plan start is = subst IsNoSuccess (sym is) tt

with_no : {T : Type 0} (result : Result T Refusal) (plan : T → Plan) (start : Start) → StartsWith result (λ x. planned (plan x)) start → IsNoSuccess start
with_no (Err refusal) plan start is = told_no refusal start is
with_no (Ok value) plan start is = subst IsNoSuccess (sym is) tt

-- a command that has its success as it begins is one that is done at once
pub begins_at_once : (s : Seen) (exchange : Bool) (ask : CashAsk) (next : Seen) (after : Bool) (start : Start) → Begins s exchange ask next after start → IsDoneAtOnce (cash ask) ⊎ IsNoSuccess start
begins_at_once s exchange (Denominate notes) next after start is = inl tt
begins_at_once s exchange (Dispense notes token) next after start (kept, is) = inr (with_no is.grant (λ l. dispense_plan l.issue l.counts) start is.starts)
begins_at_once s exchange Present next after start (same, kept, is) = inr (unless_no (active_refusal exchange) (order_plan asks.Present) start is)
begins_at_once s exchange Reject next after start (same, kept, is) = inr (unless_no (active_refusal exchange) (order_plan asks.Reject) start is)
begins_at_once s exchange Retract next after start (same, kept, is) = inr (unless_no (active_refusal exchange) (order_plan asks.Retract) start is)
begins_at_once s exchange Reset next after start (same, kept, is) = inr (unless_no (active_refusal exchange) reset_plan start is)
begins_at_once s exchange StartExchange next after start is = inl tt
begins_at_once s exchange EndExchange next after start is = inl tt
begins_at_once s exchange (SetStorage added) next after start (same, kept, is) = inr (with_no is.checked (λ counts. storage_plan counts) start is.starts)

-- a nonce command is done at once
pub nonce_at_once : (s : State) (ask : Ask) (result : Outcome) (next : Seen) (issued : Moment) → NonceCommand s ask result next issued → is_success result.code ≡ true → IsDoneAtOnce ask
nonce_at_once s ask result next issued_ (refused same unfit) e = absurd (false≢true e)
nonce_at_once s issue result next issued_ (issued now fit is) e = tt
nonce_at_once s issue result next issued_ (unissued now fit is) e = absurd (false≢true e)
nonce_at_once s clear result next issued_ (cleared_ now fit live is) e = tt
nonce_at_once s clear result next issued_ (uncleared now fit live is) e = absurd (false≢true e)
nonce_at_once s clear result next issued_ (none_to_clear fit dead) e = tt

-- what a step that ends a plan with success leaves
record EndsInFull (s : Seen) (left : Plan) : Type 0 where
  parts : left.parts.items ≡ []
  order : IsInFull s.guard.open_order

abbrev WentFull : Seen → Plan → Went → Type 0
WentFull s left more = Unit {0}
WentFull s left (done a) = is_success a.code ≡ true → EndsInFull s left

went_is : (s : Seen) (left : Plan) (went other : Went) → went ≡ other → WentFull s left other → WentFull s left went
went_is s left went other e h = subst (WentFull s left) (sym e) h

onward_full : (s : Seen) (left : Plan) (units : List NoteKind) (notes : Option Counts) (parts : List Part) → left.parts.items ≡ parts → IsInFull s.guard.open_order → WentFull s left (onward units notes parts)
onward_full s left units None [] is order = λ e. record { parts = is; order = order }
onward_full s left units (Some counts) [] is order = λ e. record { parts = is; order = order }
onward_full s left units notes (part ∷ parts) is order = tt

denied_full : (s : Seen) (first : Option Deny) (next : Seen) (left : Plan) (went : Went) → IsDenied s first next went → WentFull s left went
denied_full s first next left went is = went_is s left went (done is.answer) is.is (λ e. absurd (false≢true (sym (of_some (denial is.deny) is.answer is.due (denied_fails is.deny)) ∙ e)))

load_full : (s : Seen) (left : Plan) (units : List NoteKind) (notes : Option Counts) (parts : List Part) (broke : Bool) → left.parts.items ≡ parts → IsInFull s.guard.open_order → WentFull s left (cond {A = Went} broke (done (plain_answer HardwareError)) (onward units notes parts))
load_full s left units notes parts true is order = λ e. absurd (false≢true e)
load_full s left units notes parts false is order = onward_full s left units notes parts is order

parts_of : (left plan : Plan) → left ≡ plan → left.parts.items ≡ plan.parts.items
parts_of left plan e = ap (λ (p : Plan). p.parts.items) e

part_full : (part : Part) (rest : List Part) (s : Seen) (plan : Plan) (next : Seen) (left : Plan) (went : Went) → IsInFull s.guard.open_order → DoesPart part rest s plan next left went → WentFull s left went
part_full (Order ask) rest s plan next left went order (inl is) = went_is s left went more is.2 tt
part_full (Order ask) rest s plan next left went order (inr (kept, inl d)) = denied_full s _ next left went d
part_full (Order ask) rest s plan next left went order (inr (kept, inr u)) = went_is s left went _ u.is (λ e. absurd (false≢true e))
part_full Restore rest s plan next left went order (inl r) = went_is s left went _ r.is (onward_full s left s.guard.units plan.notes _ (parts_of left _ r.left) order)
part_full Restore rest s plan next left went order (inr (kept, is, how)) = went_is s left went _ is (λ e. absurd (false≢true e))
part_full (Load unit count) rest s plan next left went order is = went_is s left went _ is.is (load_full s left s.guard.units plan.notes rest is.outcome.failed (parts_of left _ is.left) order)
part_full (Note unit count) rest s plan next left went order (inl (w, left_, is)) = went_is s left went _ is (onward_full s left s.guard.units plan.notes rest (parts_of left _ left_) order)
part_full (Note unit count) rest s plan next left went order (inr (kept, inl d)) = denied_full s _ next left went d
part_full (Note unit count) rest s plan next left went order (inr (kept, inr u)) = went_is s left went _ u.is (λ e. absurd (false≢true e))

works_full : (s : Seen) (plan : Plan) (next : Seen) (left : Plan) (went : Went) → Works s plan next left went → WentFull s left went
works_full s plan next left went is = go s.guard.open_order refl is
  where
    first : (parts : List Part) → IsInFull s.guard.open_order → DoesFirst parts s plan next left went → WentFull s left went
    first [] order is = absurd is
    first (part ∷ rest) order is = part_full part rest s plan next left went order is

    go : (o : Open) → s.guard.open_order ≡ o → WorksOn o s plan next left went → WentFull s left went
    go (Written kind counts) at is = went_is s left went more is.is tt
    go (Acted kind moved diverted true) at (kept, inl i) = went_is s left went _ i.is (λ e. absurd (false≢true e))
    go (Acted kind moved diverted false) at (kept, inl i) = went_is s left went _ i.is (onward_full s left s.guard.units plan.notes plan.parts.items (parts_of left plan kept) (subst IsInFull (sym at) refl))
    go (Acted kind moved diverted broke) at (kept, inr u) = went_is s left went _ u.is (λ e. absurd (false≢true e))
    go No at is = first plan.parts.items (subst IsInFull (sym at) tt) is

-- what is known of a command before the step
record IsKnown (old : State) (service : Service) (a : Command Job) : Type 0 where
  succeeded : has_succeeded a.job.outcome ≡ true → had_succeeded old service (ticket_of a) ≡ true
  fresh : IsFresh a

known : (old : State) (service : Service) → All IsFresh (queue_at old service) → All (IsKnown old service) (queue_at old service)
known old service fresh_ = λ k d within.
    let a = get_or (queue_at old service) k d in
    record {
      succeeded = λ earned. list_any_at (λ b. is_at (ticket_of a) b && has_succeeded b.job.outcome) (queue_at old service) k d within (rw (at_itself (ticket_of a), earned) refl);
      fresh = fresh_ k d within;
    }

module _ (old new : State) (service : Service) where
  by_start : (start : Start) (a : Command Job) → IsKnown old service a → a.job.plan ≡ None → IsDoneAtOnce a.job.ask ⊎ IsNoSuccess start → has_succeeded (with_start start a).job.outcome ≡ true → IsEarned old service (with_start start a)
  by_start (told answer) a known_ none (inl done_) e = at_once done_ none
  by_start (told answer) a known_ none (inr fails) e = absurd (false≢true (sym fails ∙ e))
  by_start (planned plan) a known_ none either e = earned_before (known_.succeeded e)

  by_went : (left : Plan) (b : Bool) (went : Went) (a : Command Job) → IsKnown old service a → service ≡ Cash → WentFull old.seen left went → has_succeeded (with_went left b went a).job.outcome ≡ true → IsEarned old service (with_went left b went a)
  by_went left b more a known_ at full e = earned_before (known_.succeeded e)
  by_went left b (done answer) a known_ at full e = let whole = full e in in_full at left refl whole.parts whole.order

  stopping : (b : Bool) → is_success (cond b Canceled TimeOut) ≡ true → ⊥
  stopping true e = false≢true e
  stopping false e = false≢true e

  turn_earned : (event : Event) (s : State) → s.seen ≡ old.seen → (b : Command Job) → Turn s event new (IsKnown old service) service b → has_succeeded b.job.outcome ≡ true → IsEarned old service b
  turn_earned event s same b (stays a known_ still) e = earned_before (known_.succeeded e)
  turn_earned event s same b (marks a holds known_ still) e = earned_before (known_.succeeded e)
  turn_earned event s same b (accepted client id line timeout name payload ask has asks) e = absurd (false≢true e)
  turn_earned event s same b (stopped_waiting a holds known_ waits marked) e = absurd (false≢true e)
  turn_earned event s same b (late a known_ waits due) e = absurd (false≢true e)
  turn_earned event s same b (stopped_running a known_ runs stops) e = absurd (stopping a.marked e)
  turn_earned event s same b (nonce a known_ waits at result does) e = at_once (nonce_at_once s a.job.ask result new.seen new.issued does e) (known_.fresh.plan waits)
  turn_earned event s same b (misasked a known_ waits asks) e = absurd (false≢true e)
  turn_earned event s same b (begun a known_ waits none at ask asks_ start begins) e =
      by_start start a known_ (known_.fresh.plan waits) (subst (λ (x : Ask). IsDoneAtOnce x ⊎ IsNoSuccess start) (sym asks_) (begins_at_once s.seen s.exchange ask new.seen new.exchange start begins)) e
  turn_earned event s same b (worked a known_ runs at plan left has went works) e = by_went left _ went a known_ at (subst (λ (x : Seen). WentFull x left went) same (works_full s.seen plan new.seen left went works)) e
  turn_earned event s same b (heard a known_ elsewhere saying speaks) e = by_device elsewhere

pub successes_have_causes : (old new : State) (event : Event) (told_ : Answer) → IsSound old → Step old event told_ new → SuccessesHaveCauses old new
successes_have_causes old new event told_ sound is = λ service.
    each (Turn (at_event old event) event new (IsKnown old service) service) (λ b. has_succeeded b.job.outcome ≡ true → IsEarned old service b)
    (λ b turn. turn_earned old new service event (at_event old event) (seen_at old event) b turn) (queue_at new service)
    (turns (IsKnown old) old sound.machine sound.asks (λ b. known old b (sound.fresh b)) event told_ new is service)
