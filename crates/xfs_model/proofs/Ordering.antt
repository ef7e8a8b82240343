-- Each order that is open behind a step follows from what was before.
use Rattle.std.proofs.Common.{◌≡◌, Bool, List, [], ◌∷◌, Result, Ok, Err, refl, ap, sym, subst, inl, inr}
use Rattle.xfs_base.specs.declared.counts.Counts.{Counts}
use Rattle.xfs_dispenser.specs.Answers.{Start, Went}
use Rattle.xfs_dispenser.specs.Begins.{Begins}
use Rattle.xfs_dispenser.specs.Checks.{Passed, Permits}
use Rattle.xfs_dispenser.specs.Seen.{Seen}
use Rattle.xfs_dispenser.specs.Steps.{DoesFirst, DoesPart, Works, WorksOn}
use Rattle.xfs_dispenser.specs.declared.ask.CashAsk.{CashAsk}
use Rattle.xfs_dispenser.specs.declared.ask.CashAsk.TheVariants.{Denominate, Dispense, Present, Reject, Reset, Retract, StartExchange, SetStorage, EndExchange}
use Rattle.xfs_dispenser.specs.declared.grant.Grant.{Grant}
use Rattle.xfs_dispenser.specs.declared.part.Part.{Part}
use Rattle.xfs_dispenser.specs.declared.part.Part.TheVariants.{Order, Restore, Load, Note}
use Rattle.xfs_dispenser.specs.declared.plan.Plan.{Plan}
use Rattle.xfs_dispenser.specs.declared.refusal.Refusal.{Refusal}
use Rattle.xfs_dispenser.proofs.BeginLaws.{bound-same}
use Rattle.xfs_guard.specs.Orders.{Acts}
use Rattle.xfs_guard.specs.Refusals.{asked_counts, asked_kind}
use Rattle.xfs_guard.specs.View.{View}
use Rattle.xfs_guard.specs.declared.ask.Ask.{Ask as Asked}
use Rattle.xfs_guard.specs.declared.ask.Ask.TheVariants as asked
use Rattle.xfs_guard.specs.declared.open.Open.{Open}
use Rattle.xfs_guard.specs.declared.open.Open.TheVariants.{No, Written, Acted}
use Rattle.xfs_model.specs.Events.{Answer, Event}
use Rattle.xfs_model.specs.GuardCalls.{AtMostOneCall, GuardCall, IsPlain, checked, marked, missed, read, took, worked}
use Rattle.xfs_model.specs.State.{State}
use Rattle.xfs_model.specs.Step.{Step}
use Rattle.xfs_model.specs.Successes.{IsOfPlace, OrderFollows}
use Rattle.xfs_model.proofs.Calls.{one_call}
use Rattle.xfs_model.proofs.Sounds.{unrestored_closed}

-- the order stays, or none is open
stays : (o : Open) (v : View) → v.open_order ≡ o → OrderFollows o v
stays No v e = tt
stays (Written kind counts) v e = inl e
stays (Acted kind moved diverted failed) v e = inl e

at_order : (o p : Open) (v : View) → o ≡ p → OrderFollows p v → OrderFollows o v
at_order o p v e h = subst (λ x. OrderFollows x v) (sym e) h

kept : (old new : View) → new.open_order ≡ old.open_order → OrderFollows new.open_order old
kept old new e = at_order new.open_order old.open_order old e (stays old.open_order old refl)

closed : (old new : View) → new.open_order ≡ No → OrderFollows new.open_order old
closed old new e = at_order new.open_order No old e tt

-- an order of a place is of all that lies there
of_place : (v : View) (ask : Asked) → IsOfPlace v (asked_kind ask) (asked_counts v ask)
of_place v (asked.Stack issue unit count) = tt
of_place v asked.Present = refl
of_place v asked.Reject = refl
of_place v asked.Retract = refl

acted : (old new : View) (moved diverted : Counts) (failed : Bool) → Acts old new moved diverted failed → OrderFollows new.open_order old
acted old new moved diverted failed is = at_order new.open_order (Acted is.kind moved diverted failed) old (ap (λ (v : View). v.open_order) is.same) (inr (is.counts, is.written, is.carried))

part : (p : Part) (rest : List Part) (s : Seen) (plan : Plan) (next : Seen) (after : Plan) (went : Went) → s.guard.open_order ≡ No → DoesPart p rest s plan next after went → OrderFollows next.guard.open_order s.guard
part (Order ask) rest s plan next after went none (inl (w, left, is)) =
    at_order next.guard.open_order (Written (asked_kind ask) (asked_counts s.guard ask)) s.guard (ap (λ (v : View). v.open_order) w.becomes.guard_is) (inr (none, of_place s.guard ask))
part (Order ask) rest s plan next after went none (inr (kept_, inl d)) = kept s.guard next.guard (ap (λ (x : Seen). x.guard.open_order) d.same)
part (Order ask) rest s plan next after went none (inr (kept_, inr u)) = kept s.guard next.guard (ap (λ (v : View). v.open_order) u.fails.becomes.guard_is)
part Restore rest s plan next after went none (inl r) = closed s.guard next.guard (ap (λ (v : View). v.open_order) r.becomes.guard_is)
part Restore rest s plan next after went none (inr (kept_, is, how)) = closed s.guard next.guard (unrestored_closed s next how)
part (Load unit count) rest s plan next after went none is = kept s.guard next.guard (ap (λ (v : View). v.open_order) is.reported.same)
part (Note unit count) rest s plan next after went none (inl (w, left, is)) = kept s.guard next.guard (ap (λ (v : View). v.open_order) w.becomes.guard_is)
part (Note unit count) rest s plan next after went none (inr (kept_, inl d)) = kept s.guard next.guard (ap (λ (x : Seen). x.guard.open_order) d.same)
part (Note unit count) rest s plan next after went none (inr (kept_, inr u)) = kept s.guard next.guard (ap (λ (v : View). v.open_order) u.fails.becomes.guard_is)

works : (s : Seen) (plan : Plan) (next : Seen) (after : Plan) (went : Went) → Works s plan next after went → OrderFollows next.guard.open_order s.guard
works s plan next after went is = go s.guard.open_order refl is
  where
    first : (parts : List Part) → s.guard.open_order ≡ No → DoesFirst parts s plan next after went → OrderFollows next.guard.open_order s.guard
    first [] none is = absurd is
    first (p ∷ rest) none is = part p rest s plan next after went none is

    go : (o : Open) → s.guard.open_order ≡ o → WorksOn o s plan next after went → OrderFollows next.guard.open_order s.guard
    go (Written kind counts) at is = acted s.guard next.guard is.outcome.moved is.outcome.diverted is.outcome.failed is.acts
    go (Acted kind moved diverted failed) at (kept_, inl i) = closed s.guard next.guard (ap (λ (v : View). v.open_order) i.settles.same)
    go (Acted kind moved diverted failed) at (kept_, inr u) = closed s.guard next.guard (ap (λ (v : View). v.open_order) u.unsettles.same)
    go No at is = first plan.parts.items at is

permits : (s : Seen) (c : Result Passed Refusal) (grant_ : Result Grant Refusal) (next : Seen) → Permits s c grant_ next → OrderFollows next.guard.open_order s.guard
permits s (Err r) grant_ next is = kept s.guard next.guard (ap (λ (x : Seen). x.guard.open_order) is.1)
permits s (Ok passed) grant_ next (inl p) = kept s.guard next.guard ((bound-same s.guard next.guard passed.token passed.amounts p.binds).2)
permits s (Ok passed) grant_ next (inr u) = kept s.guard next.guard (ap (λ (v : View). v.open_order) u.fails.becomes.guard_is)

begins : (s : Seen) (exchange : Bool) (ask : CashAsk) (next : Seen) (after : Bool) (start : Start) → Begins s exchange ask next after start → OrderFollows next.guard.open_order s.guard
begins s exchange (Denominate notes) next after start is = kept s.guard next.guard (ap (λ (x : Seen). x.guard.open_order) is.0)
begins s exchange (Dispense notes token) next after start is = permits s is.1.checked is.1.grant next is.1.permits
begins s exchange Present next after start is = kept s.guard next.guard (ap (λ (x : Seen). x.guard.open_order) is.0)
begins s exchange Reject next after start is = kept s.guard next.guard (ap (λ (x : Seen). x.guard.open_order) is.0)
begins s exchange Retract next after start is = kept s.guard next.guard (ap (λ (x : Seen). x.guard.open_order) is.0)
begins s exchange Reset next after start is = kept s.guard next.guard (ap (λ (x : Seen). x.guard.open_order) is.0)
begins s exchange StartExchange next after start is = kept s.guard next.guard (ap (λ (x : Seen). x.guard.open_order) is.0)
begins s exchange EndExchange next after start is = kept s.guard next.guard (ap (λ (x : Seen). x.guard.open_order) is.0)
begins s exchange (SetStorage added) next after start is = kept s.guard next.guard (ap (λ (x : Seen). x.guard.open_order) is.0)

guard_call : (old new : Seen) → GuardCall old new → OrderFollows new.guard.open_order old.guard
guard_call old new (marked mark now is) = kept old.guard new.guard (ap (λ (v : View). v.open_order) is.guard_is)
guard_call old new (missed mark now is) = kept old.guard new.guard (ap (λ (v : View). v.open_order) is.becomes.guard_is)
guard_call old new (checked exchange after ask start now is) = begins old exchange ask new after start is
guard_call old new (worked plan left went now is) = works old plan new left went is
guard_call old new (took moved failed now is) = kept old.guard new.guard (ap (λ (v : View). v.open_order) is.reported.same)
guard_call old new (read now is) = kept old.guard new.guard (ap (λ (v : View). v.open_order) is.guard_is)

follows : (old new : Seen) → AtMostOneCall old new → OrderFollows new.guard.open_order old.guard
follows old new (inl is) = kept old.guard new.guard (ap (λ (x : Seen). x.guard.open_order) is)
follows old new (inr is) = guard_call old new is

pub orders_follow : (old new : State) (event : Event) (told_ : Answer) → IsPlain event → Step old event told_ new → OrderFollows new.seen.guard.open_order old.seen.guard
orders_follow old new event told_ plain is = follows old.seen new.seen (one_call old new event told_ plain is)
