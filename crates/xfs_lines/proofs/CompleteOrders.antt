-- An order that isn't refused is carried out in full, where no count of faults rises.
use Rattle.std.proofs.Common.{◌≡◌, ℕ, zero, suc, false, List, [], ◌∷◌, ◌+◌, None, Some, Ok, Err, inl, inr, refl, sym, ◌∙◌, ap, arith}
use Rattle.std.specs.declared.result.Result.{Result}
use Rattle.xfs_mech.specs.declared.motion.Outcome.{Outcome}
use Rattle.xfs_guard.specs.View.{View}
use Rattle.xfs_guard.specs.Refusals.{asked_kind, asked_counts}
use Rattle.xfs_guard.specs.declared.ask.Ask.{Ask}
use Rattle.xfs_guard.specs.declared.ask.Ask.TheVariants.{Stack as AskStack}
use Rattle.xfs_guard.specs.declared.deny.Deny.{Deny}
use Rattle.xfs_dispenser.specs.Seen.{Seen}
use Rattle.xfs_dispenser.specs.Complete.{IsCalm}
use Rattle.xfs_dispenser.specs.Carried.{CarriesOut, IsOrderActed, IsOrderSettled, IsStopped, FollowsUnit, with_stacked}
use Rattle.xfs_dispenser.proofs.CarryLaws.{StacksFrom}
use Rattle.xfs_dispenser.specs.Steps.{refusal_of}
use Rattle.xfs_dispenser.proofs.TurnLaws.{IsFull, IsLater, full-of, later-becomes, later-same, later-trans, rose-within, sound, written-kind}

-- ---- no count of faults falls while orders are carried out

acted-later : (s : Seen) (ask : Ask) (outcome : Outcome) (acted : Seen) → IsOrderActed s ask outcome acted → IsLater s acted
acted-later s ask outcome acted a =
    let faults : a.written.guard.faults ≡ s.guard.faults = ap (λ (v : View). v.faults) a.order.guard_is in
    record { mech = omega (arith, faults, a.called.later); disk = omega (arith, a.order.later, a.called.disk_same) }

settled-later : (s : Seen) (ask : Ask) (outcome : Outcome) (next : Seen) → IsOrderSettled s ask outcome next → IsLater s next
settled-later s ask outcome next h =
    let faults : next.guard.faults ≡ h.acted.guard.faults = ap (λ (v : View). v.faults) h.settles.same in
    later-trans s h.acted next (acted-later s ask outcome h.acted h.first) (record { mech = omega (arith, faults); disk = h.later })

stopped-later : (s : Seen) (ask : Ask) (deny : Deny) (next : Seen) → IsStopped s ask deny next → IsLater s next
stopped-later s ask deny next (inl same) = later-same s next same.1
stopped-later s ask deny next (inr (none, is, inl f)) = later-becomes s next _ refl f.becomes
stopped-later s ask deny next (inr (none, is, inr u)) =
    let faults : next.guard.faults ≡ u.acted.guard.faults = ap (λ (v : View). v.faults) u.unsettles.same in
    later-trans s u.acted next (acted-later s ask u.outcome u.acted u.first) (record { mech = omega (arith, faults); disk = u.later })

pub carries-later : (s : Seen) (ask : Ask) (result : Result Outcome Deny) (next : Seen) → CarriesOut s ask result next → IsLater s next
carries-later s ask (Ok o) next c = settled-later s ask o next c.1
carries-later s ask (Err d) next c = stopped-later s ask d next c

pub follows-later : (Onward : Outcome → Seen → Result Outcome Deny → Seen → Type 0) → ((all : Outcome) (s : Seen) (result : Result Outcome Deny) (next : Seen) → Onward all s result next → IsLater s next)
    → (all : Outcome) (u : ℕ) (one : Result Outcome Deny) (s : Seen) (result : Result Outcome Deny) (next : Seen) → FollowsUnit Onward all u one s result next → IsLater s next
follows-later Onward each all u (Err d) s result next f = later-same s next f.1
follows-later Onward each all u (Ok o) s result next (inl f) = later-same s next f.2
follows-later Onward each all u (Ok o) s result next (inr f) = each (with_stacked all u o) s result next f.1

pub stacks-later : (issue : ℕ) (counts : List ℕ) (u : ℕ) (all : Outcome) (s : Seen) (result : Result Outcome Deny) (next : Seen) → StacksFrom issue counts u all s result next → IsLater s next
stacks-later issue [] u all s result next h = later-same s next h.1
stacks-later issue (zero ∷ counts) u all s result next h = stacks-later issue counts (u + 1) all s result next h
stacks-later issue (suc n ∷ counts) u all s result next h =
    later-trans s h.middle next (carries-later s (AskStack issue (u + 1) (suc n)) h.one h.middle h.carried)
    (follows-later (StacksFrom issue counts (u + 1)) (λ all s result next more. stacks-later issue counts (u + 1) all s result next more) all u h.one h.middle result next h.onward)

-- ---- an order that isn't refused

-- the outcome of an order tells all of its notes
pub record TellsFull (s : Seen) (ask : Ask) (result : Result Outcome Deny) (next : Seen) : Type 0 where
  pub outcome : Outcome
  pub is : result ≡ Ok outcome
  pub fine : outcome.failed ≡ false
  pub moved : outcome.moved ≡ asked_counts s.guard ask
  pub full : IsFull s ask next

settled-full : (s : Seen) (ask : Ask) (outcome : Outcome) (next : Seen) → IsCalm s next → IsOrderSettled s ask outcome next → TellsFull s ask (Ok outcome) next
settled-full s ask outcome next calm h =
    let a = h.first in
    let faults : a.written.guard.faults ≡ s.guard.faults = ap (λ (v : View). v.faults) a.order.guard_is in
    let after : next.guard.faults ≡ h.acted.guard.faults = ap (λ (v : View). v.faults) h.settles.same in
    let fine : outcome.failed ≡ false = sound outcome.failed (λ e. calm.mech (rose-within s.guard.faults next.guard.faults a.written.guard.faults h.acted.guard.faults (omega (arith, faults)) (omega (arith, after)) (a.called.cause e))) in
    let asked = written-kind (asked_kind ask) a.acts.kind (asked_counts s.guard ask) a.acts.counts (sym (ap (λ (v : View). v.open_order) a.order.guard_is) ∙ a.acts.written) in
    record {
      outcome = outcome;
      is = refl;
      fine = fine;
      moved = (a.acts.carried.full fine).0 ∙ asked.1;
      full = full-of s ask a.written h.acted next outcome.moved outcome.diverted outcome.failed a.order.guard_is fine a.acts h.settles;
    }

pub carries-full : (s : Seen) (ask : Ask) (result : Result Outcome Deny) (next : Seen) → refusal_of s.guard ask ≡ None → IsCalm s next → CarriesOut s ask result next → TellsFull s ask result next
carries-full s ask (Ok o) next free calm c = settled-full s ask o next calm c.1
carries-full s ask (Err d) next free calm (inl (refused, same)) = let e : None ≡ Some d = sym free ∙ refused in cc
carries-full s ask (Err d) next free calm (inr (none, is, inl f)) = absurd (calm.disk f.cause)
carries-full s ask (Err d) next free calm (inr (none, is, inr u)) =
    let first = acted-later s ask u.outcome u.acted u.first in
    absurd (calm.disk (rose-within s.disk_faults next.disk_faults u.acted.disk_faults next.disk_faults first.disk (omega arith) u.cause))
