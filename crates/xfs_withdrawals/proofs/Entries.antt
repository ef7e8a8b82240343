-- What a Present that is done in full adds to the mechanism's list.
use Rattle.std.proofs.Common.{◌≡◌, ◌+◌, ◌⊎◌, ℕ, zero, Bool, true, false, List, [], length, Option, None, Some, inl, inr, refl, ap, sym, subst, ◌∙◌, arith}
use Rattle.xfs_base.specs.declared.counts.Counts.{Counts}
use Rattle.xfs_base.specs.declared.counts.Kind.{Kind}
use Rattle.xfs_base.specs.declared.counts.Kind.TheVariants.{Present}
use Rattle.xfs_dispenser.specs.Answers.{Went, done, more}
use Rattle.xfs_dispenser.specs.Complete.{FollowsTurn, IsCalm, WorksTurns}
use Rattle.xfs_dispenser.specs.Plans.{order_plan}
use Rattle.xfs_dispenser.specs.Seen.{Seen}
use Rattle.xfs_dispenser.specs.Steps.{IsActed, IsSettled, IsUnsettled, Orders, WorksOn, order_record, ordered, refusal_of}
use Rattle.xfs_dispenser.specs.declared.plan.Plan.{Plan}
use Rattle.xfs_dispenser.proofs.TurnLaws.{calm-rest, follows-later, rose-within, turns-later, works-later, written-kind}
use Rattle.xfs_guard.specs.View.{View}
use Rattle.xfs_guard.specs.declared.ask.Ask.TheVariants as Ask
use Rattle.xfs_guard.specs.declared.open.Open.TheVariants.{No, Acted}
use Rattle.xfs_guard.proofs.RecordLaws.{length-pushed}
use Rattle.xfs_mech.specs.Mechanism.{AddsEntry}
use Rattle.xfs_mech.specs.declared.motion.Motion.{Motion}
use Rattle.xfs_mech.specs.declared.motion.Motion.TheVariants.{Moved}
use Rattle.xfs_withdrawals.specs.Withdrawals.{IsShown}

-- nothing comes behind the last turn
ends : (s : Seen) (plan : Plan) (first : Went) (next : Seen) (went : Went) → FollowsTurn (WorksTurns zero) s plan first next went → next ≡ s
ends s plan more next went later = later.0
ends s plan (done answer) next went later = later.0

-- the settling of an order adds nothing
settled_motions : (acted next : Seen) (plan : Plan) (went : Went) (kind : Kind) (moved diverted : Counts) (failed : Bool) → acted.guard.open_order ≡ Acted kind moved diverted failed → WorksTurns 1 acted plan next went
    → next.guard.motions ≡ acted.guard.motions
settled_motions acted next plan went kind moved diverted failed is t =
    ap (λ (x : Seen). x.guard.motions) (ends t.middle t.after t.first next went t.later) ∙ go (subst (λ o. WorksOn o acted plan t.middle t.after t.first) is t.works)
  where
    go : (t.after ≡ plan) × (IsSettled acted plan failed t.middle t.first ⊎ IsUnsettled acted t.middle t.first) → t.middle.guard.motions ≡ acted.guard.motions
    go (kept, inl i) = ap (λ (v : View). v.motions) i.settles.same
    go (kept, inr u) = ap (λ (v : View). v.motions) u.unsettles.same

never : (b : Bool) → (b ≡ true → ⊥) → b ≡ false
never true no_ = absurd (no_ refl)
never false no_ = refl

-- the same entry, by other words
entry_as : (p q r t : Option (List Motion)) (m n : ℕ) (k j : Kind) (c d x : Counts) → q ≡ p → n ≡ m → j ≡ k → d ≡ c → t ≡ r → AddsEntry p (Moved m k c x) r → AddsEntry q (Moved n j d x) t
entry_as p q r t m n k j c d x before number kind counts now adds = rw (before, number, kind, counts, now) adds

-- the written order is acted in full
acted_entry : (s written next : Seen) (plan : Plan) (went : Went) → written.guard ≡ ordered s.guard Ask.Present → IsCalm written next → WorksTurns 2 written plan next went → IsShown s next
acted_entry s written next plan went is calm t = go (subst (λ o. WorksOn o written plan t.middle t.after t.first) (ap (λ (v : View). v.open_order) is) t.works)
  where
    go : IsActed written plan t.middle t.after t.first → IsShown s next
    go a =
        let on : WorksTurns 1 t.middle t.after next went = rw a.is at t.later in
        let later = turns-later 1 t.middle t.after next went on in
        let fine = never a.outcome.failed (λ e. calm.mech (rose-within written.guard.faults next.guard.faults written.guard.faults t.middle.guard.faults (omega arith) later.mech (a.called.cause e))) in
        let acts = a.acts in
        let asked = written-kind Present acts.kind s.guard.places.transport acts.counts (sym (ap (λ (v : View). v.open_order) is) ∙ acts.written) in
        let whole = acts.carried.full fine in
        let same = settled_motions t.middle next t.after went acts.kind a.outcome.moved a.outcome.diverted a.outcome.failed (ap (λ (v : View). v.open_order) acts.same) on in
        let longer : length s.guard.records + 1 ≡ length written.guard.records = sym (ap (λ (v : View). length v.records) is ∙ length-pushed s.guard.records (order_record s.guard Ask.Present)) in
        record {
          diverted = a.outcome.diverted;
          none = whole.1;
          entry = entry_as written.guard.motions s.guard.motions t.middle.guard.motions next.guard.motions (length written.guard.records) (length s.guard.records + 1) acts.kind Present a.outcome.moved s.guard.places.transport a.outcome.diverted
              (sym (ap (λ (v : View). v.motions) is)) longer (sym asked.0) (sym (whole.0 ∙ asked.1)) same acts.motions;
        }

-- so it is with a Present that isn't refused
pub shown : (s next : Seen) (went : Went) → s.guard.open_order ≡ No → refusal_of s.guard Ask.Present ≡ None → IsCalm s next → WorksTurns 3 s (order_plan Ask.Present) next went → IsShown s next
shown s next went none free calm t = go (subst (λ o. WorksOn o s (order_plan Ask.Present) t.middle t.after t.first) none t.works)
  where
    go : Orders Ask.Present [] s (order_plan Ask.Present) t.middle t.after t.first → IsShown s next
    go (inl w) =
        let on : WorksTurns 2 t.middle t.after next went = rw w.2 at t.later in
        acted_entry s t.middle next t.after went w.0.becomes.guard_is (calm-rest s t.middle next (works-later s (order_plan Ask.Present) t.middle t.after t.first t.works) calm) on
    go (inr (kept, inl d)) = (let e : None ≡ Some d.deny = sym free ∙ d.first in cc)
    go (inr (kept, inr u)) =
        let later = follows-later 2 t.middle t.after t.first next went t.later in
        absurd (calm.disk (rose-within s.disk_faults next.disk_faults s.disk_faults t.middle.disk_faults (omega arith) later.disk u.fails.cause))
