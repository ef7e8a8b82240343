-- A plan that runs can still be worked on behind the calls of the guard that are no step of it; and a command that begins has one.
use Rattle.std.proofs.Common.{◌≡◌, Bool, true, false, [], ◌∷◌, Option, None, Some, Result, Ok, Err, refl, ap, sym, subst, ◌∙◌, inl, inr}
use Rattle.xfs_base.specs.declared.counts.Counts.{Counts}
use Rattle.xfs_dispenser.specs.Answers.{CashAnswer, Start, told, planned}
use Rattle.xfs_dispenser.specs.Begins.{Begins, StartsUnless, StartsWith}
use Rattle.xfs_dispenser.specs.Checks.{Passed, Permits}
use Rattle.xfs_dispenser.specs.Plans.{AreEight, CanBeginAll, IsPlanned, order_plan, reset_plan}
use Rattle.xfs_dispenser.specs.Seen.{Seen}
use Rattle.xfs_dispenser.specs.declared.ask.CashAsk.{CashAsk}
use Rattle.xfs_dispenser.specs.declared.ask.CashAsk.TheVariants.{Denominate, Dispense, Present, Reject, Reset, Retract, StartExchange, SetStorage, EndExchange}
use Rattle.xfs_dispenser.specs.declared.grant.Grant.{Grant}
use Rattle.xfs_dispenser.specs.declared.part.Part.{Part}
use Rattle.xfs_dispenser.specs.declared.part.Part.TheVariants.{Order, Restore}
use Rattle.xfs_dispenser.specs.declared.plan.Plan.{Plan}
use Rattle.xfs_dispenser.specs.declared.refusal.Refusal.{Refusal}
use Rattle.xfs_dispenser.proofs.BeginLaws.{bound-same, dispense-planned, storage-planned, answer-plan, same-plan}
use Rattle.xfs_dispenser.proofs.StepLaws.{planned-still, same-room, taken-room}
use Rattle.xfs_guard.specs.View.{View}
use Rattle.xfs_guard.specs.declared.ask.Ask.{Ask as Asked}
use Rattle.xfs_guard.specs.declared.ask.Ask.TheVariants as asked
use Rattle.xfs_guard.specs.declared.open.Open.TheVariants.{No}
use Rattle.xfs_journal.specs.declared.record.Rec.{Rec}
use Rattle.xfs_model.specs.Guards.{Marks, Misses, CustomerTakes}
use Rattle.xfs_model.proofs.Resting.{Rests, rests_same, rests_taken}

-- each plan that could be worked on still can; the open order and the units stay, and no notes go anywhere but to the customer
pub record StillWorks (v w : View) : Type 0 where
  pub planned : (plan : Plan) → IsPlanned v plan → IsPlanned w plan
  pub order : w.open_order ≡ v.open_order
  pub units : w.units ≡ v.units
  pub places : Rests v.places w.places

pub same_still : (v w : View) → w ≡ v → StillWorks v w
same_still v w same = record {
  planned = λ plan p. rw same p;
  order = ap (λ (x : View). x.open_order) same;
  units = ap (λ (x : View). x.units) same;
  places = rests_same v.places w.places (ap (λ (x : View). x.places) same);
}

-- the guard has the same order, units and places
kept_still : (v w : View) → w.open_order ≡ v.open_order → w.units ≡ v.units → w.places ≡ v.places → StillWorks v w
kept_still v w order units places = record {
  planned = λ plan p. planned-still v w plan order units (same-room v.places w.places places) p;
  order = order;
  units = units;
  places = rests_same v.places w.places places;
}

pub marked_still : (r : Rec) (old new : Seen) → Marks r old new → StillWorks old.guard new.guard
marked_still r old new is = kept_still old.guard new.guard (ap (λ (v : View). v.open_order) is.guard_is) (ap (λ (v : View). v.units) is.guard_is) (ap (λ (v : View). v.places) is.guard_is)

pub missed_still : (r : Rec) (old new : Seen) → Misses r old new → StillWorks old.guard new.guard
missed_still r old new is =
    kept_still old.guard new.guard (ap (λ (v : View). v.open_order) is.becomes.guard_is) (ap (λ (v : View). v.units) is.becomes.guard_is) (ap (λ (v : View). v.places) is.becomes.guard_is)

pub taken_still : (old new : Seen) (moved : Counts) (failed : Bool) → CustomerTakes old moved failed new → StillWorks old.guard new.guard
taken_still old new moved true is =
    kept_still old.guard new.guard (ap (λ (v : View). v.open_order) is.reported.same) (ap (λ (v : View). v.units) is.reported.same) ((is.reported.reported.nothing refl).1)
taken_still old new moved false is = record {
  planned = λ plan p. planned-still old.guard new.guard plan (ap (λ (v : View). v.open_order) is.reported.same) (ap (λ (v : View). v.units) is.reported.same)
      (taken-room old.guard.places new.guard.places moved (is.reported.reported.moves refl).reached) p;
  order = ap (λ (v : View). v.open_order) is.reported.same;
  units = ap (λ (v : View). v.units) is.reported.same;
  places = rests_taken old.guard.places new.guard.places moved (is.reported.reported.moves refl).reached;
}

unless_told : (o : Option Refusal) (answer : CashAnswer) (plan : Plan) → StartsUnless o (told answer) (planned plan) → ⊥
unless_told None answer plan is = answer-plan answer plan is
unless_told (Some r) answer plan is = answer-plan is.answer plan is.is

with_told : {T : Type 0} (result : Result T Refusal) (answer : T → CashAnswer) (plan : Plan) → StartsWith result (λ x. told (answer x)) (planned plan) → ⊥
with_told (Ok x) answer plan is = answer-plan (answer x) plan is
with_told (Err r) answer plan is = answer-plan is.answer plan is.is

-- the plan is the one that is started
pub unless_planned : (o : Option Refusal) (a b : Plan) → StartsUnless o (planned a) (planned b) → b ≡ a
unless_planned None a b is = same-plan b a is
unless_planned (Some r) a b is = absurd (answer-plan is.answer b is.is)

-- a plan of one part
one_part : (v : View) (part : Part) (plan : Plan) → plan.parts.items ≡ part ∷ [] → v.open_order ≡ No → CanBeginAll v (part ∷ []) → plan.notes ≡ None → IsPlanned v plan
one_part v part plan items none can untold = record { some_left = λ e f. some (sym items ∙ f); outcome = rw none tt; parts = rw items can; eight = subst AreEight (sym untold) tt }
  where
    some : part ∷ [] ≡ [] → ⊥
    some e = cc

ordered : (v : View) (ask : Asked) (plan : Plan) → v.open_order ≡ No → CanBeginAll v (Order ask ∷ []) → plan ≡ order_plan ask → IsPlanned v plan
ordered v ask plan none can is = one_part v (Order ask) plan (ap (λ (p : Plan). p.parts.items) is) none can (ap (λ (p : Plan). p.notes) is)

pub begins_planned : (s : Seen) (exchange : Bool) (ask : CashAsk) (next : Seen) (after : Bool) (plan : Plan) → s.guard.open_order ≡ No → Begins s exchange ask next after (planned plan) → IsPlanned next.guard plan
begins_planned s exchange (Denominate notes) next after plan none is = absurd (with_told is.2.given _ plan is.2.starts)
begins_planned s exchange (Dispense notes token) next after plan none is = dispense-planned s exchange notes token next plan none is.1
begins_planned s exchange Present next after plan none is = rw (is.0) (ordered s.guard asked.Present plan none (tt, tt, tt) (unless_planned _ _ plan is.2))
begins_planned s exchange Reject next after plan none is = rw (is.0) (ordered s.guard asked.Reject plan none (tt, tt, tt) (unless_planned _ _ plan is.2))
begins_planned s exchange Retract next after plan none is = rw (is.0) (ordered s.guard asked.Retract plan none (tt, tt, tt) (unless_planned _ _ plan is.2))
begins_planned s exchange Reset next after plan none is = rw (is.0) (one_part s.guard Restore plan (ap (λ (p : Plan). p.parts.items) (unless_planned _ reset_plan plan is.2)) none (tt, tt, tt) (ap (λ (p : Plan). p.notes) (unless_planned _ reset_plan plan is.2)))
begins_planned s exchange StartExchange next after plan none is = absurd (unless_told _ _ plan is.1.1)
begins_planned s exchange EndExchange next after plan none is = absurd (unless_told _ _ plan is.1.1)
begins_planned s exchange (SetStorage added) next after plan none is = rw (is.0) (storage-planned s.guard exchange added plan none is.2)

permits_closed : (s : Seen) (checked : Result Passed Refusal) (grant : Result Grant Refusal) (next : Seen) → s.guard.open_order ≡ No → Permits s checked grant next → next.guard.open_order ≡ No
permits_closed s (Err r) grant next none is = ap (λ (x : Seen). x.guard.open_order) is.1 ∙ none
permits_closed s (Ok passed) grant next none (inl p) = (bound-same s.guard next.guard passed.token passed.amounts p.binds).2 ∙ none
permits_closed s (Ok passed) grant next none (inr u) = ap (λ (v : View). v.open_order) u.fails.becomes.guard_is ∙ none

-- no order is open behind a begin
pub begins_closed : (s : Seen) (exchange : Bool) (ask : CashAsk) (next : Seen) (after : Bool) (start : Start) → s.guard.open_order ≡ No → Begins s exchange ask next after start → next.guard.open_order ≡ No
begins_closed s exchange (Denominate notes) next after start none is = ap (λ (x : Seen). x.guard.open_order) is.0 ∙ none
begins_closed s exchange (Dispense notes token) next after start none is = permits_closed s is.1.checked is.1.grant next none is.1.permits
begins_closed s exchange Present next after start none is = ap (λ (x : Seen). x.guard.open_order) is.0 ∙ none
begins_closed s exchange Reject next after start none is = ap (λ (x : Seen). x.guard.open_order) is.0 ∙ none
begins_closed s exchange Retract next after start none is = ap (λ (x : Seen). x.guard.open_order) is.0 ∙ none
begins_closed s exchange Reset next after start none is = ap (λ (x : Seen). x.guard.open_order) is.0 ∙ none
begins_closed s exchange StartExchange next after start none is = ap (λ (x : Seen). x.guard.open_order) is.0 ∙ none
begins_closed s exchange EndExchange next after start none is = ap (λ (x : Seen). x.guard.open_order) is.0 ∙ none
begins_closed s exchange (SetStorage added) next after start none is = ap (λ (x : Seen). x.guard.open_order) is.0 ∙ none
