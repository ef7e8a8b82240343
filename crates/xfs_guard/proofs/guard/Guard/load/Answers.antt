use Rattle.std.proofs.Common.{◌≡◌, ◌∙◌, refl, arith, rules}
use Rattle.xfs_mech.specs.declared.motion.Motion.TheVariants.{Loaded}
use Rattle.xfs_guard.specs.Balance.{with_notes}
use Rattle.xfs_guard.proofs.BalanceLaws.{balanced-failed, balanced-loaded}
use Rattle.xfs_guard.proofs.ReportLaws.{IsSound-report, IsRecorded-entry, IsRecorded-report, HasRoom-report, HasLimits-report, Continues-report, loaded-leaves}
use Rattle.xfs_guard.proofs.ContinueLaws.{Continues-same}
use Rattle.xfs_guard.proofs.KeepsLaws.{Keeps-moved, uses-keeping}
use Rattle.xfs_guard.proofs.LeftLaws.{left-through}
use Rattle.xfs_guard.proofs.guard.Guard.load.Goals as goal

pub invariant_of-self-then-outcome : goal.invariant_of-self-then-outcome
invariant_of-self-then-outcome g c = (
  (let reported = rw (c.ready.ensures.motions, c.ready.ensures.places) at c.load-outcome.ensures.reported in
      record {
        sound = λ still booted. IsSound-report _ (Loaded c.args.unit c.args.count) c.load-outcome.result.failed
            (g.M.Mechanism.motions c.load-outcome.new.self) (g.M.Mechanism.places c.load-outcome.new.self) (g.M.Mechanism.faults c.load-outcome.new.self) c.self.inside.ledger.loaded
            (c.self.invariant.0.sound still booted) tt reported (loaded-leaves c.self.inside.open_order c.args.unit c.args.count _ _);
        clean = c.self.invariant.0.clean;
        balanced = balanced-failed _ _ _ _ _ (Loaded c.args.unit c.args.count) c.load-outcome.result.failed _ _ c.if-outcome.true reported c.self.invariant.0.balanced;
        closed = c.self.invariant.0.closed;
        missing = c.self.invariant.0.missing;
        recorded = λ told records p. IsRecorded-report _ _ records (Loaded c.args.unit c.args.count) c.load-outcome.result.failed _ _ _ _ tt reported (c.self.invariant.0.recorded told records p);
        limits = HasLimits-report c.self.inside.open_order _ _ _ _ _ c.self.invariant.0.limits;
        room = HasRoom-report c.self.inside.open_order c.load-outcome.result.failed (g.M.Mechanism.room c.self.inside.mech) _ _ c.self.inside.ledger.room c.self.invariant.0.room c.in_ok-ready.ensures.room c.load-outcome.ensures.room;
        units = c.load-outcome.ensures.units ∙ (c.ready.ensures.units ∙ c.self.invariant.0.units);
      }),
  c.self.invariant.1,
)

pub invariant_of-self-2 : goal.invariant_of-self-2
invariant_of-self-2 g c = (
  (let reported = rw (c.ready.ensures.motions, c.ready.ensures.places) at c.load-outcome.ensures.reported in
      rw c.count_load.ensures.counted (
      record {
        sound = λ still booted. IsSound-report _ (Loaded c.args.unit c.args.count) c.load-outcome.result.failed
            (g.M.Mechanism.motions c.load-outcome.new.self) (g.M.Mechanism.places c.load-outcome.new.self) (g.M.Mechanism.faults c.load-outcome.new.self) (with_notes c.self.inside.ledger.loaded c.args.unit c.args.count)
            (c.self.invariant.0.sound still booted) tt reported (loaded-leaves c.self.inside.open_order c.args.unit c.args.count _ _);
        clean = c.self.invariant.0.clean;
        balanced = balanced-loaded _ _ _ _ _ c.args.unit c.args.count c.load-outcome.result.failed _ _ c.if-outcome.false (rw (← c.self.view_is) at c.requires.fits).low c.count_load.ensures.few reported c.self.invariant.0.balanced;
        closed = c.self.invariant.0.closed;
        missing = c.self.invariant.0.missing;
        recorded = λ told records p. IsRecorded-report _ _ records (Loaded c.args.unit c.args.count) c.load-outcome.result.failed _ _ _ _ tt reported (c.self.invariant.0.recorded told records p);
        limits = HasLimits-report c.self.inside.open_order _ _ _ _ _ c.self.invariant.0.limits;
        room = HasRoom-report c.self.inside.open_order c.load-outcome.result.failed (g.M.Mechanism.room c.self.inside.mech) _ _ c.self.inside.ledger.room c.self.invariant.0.room c.in_ok-ready.ensures.room c.load-outcome.ensures.room;
        units = c.load-outcome.ensures.units ∙ (c.ready.ensures.units ∙ c.self.invariant.0.units);
      })),
  rw c.count_load.ensures.counted c.self.invariant.1,
)

pub returns-clause-ok : goal.returns-clause-ok
returns-clause-ok g c =
    let reported = rw (c.ready.ensures.motions, c.ready.ensures.places) at c.load-outcome.ensures.reported in
    rw (← c.self.view_is, c.count_load.ensures.counted) (record { reported = reported; told = c.load-outcome.ensures.moved; same = rw c.if-outcome.false refl })

pub returns-in_err-ready-clause-uses : goal.returns-in_err-ready-clause-uses
returns-in_err-ready-clause-uses g c = uses-keeping (Keeps-moved g.D.Disk _ _ _ g.met.D.Disk.only_now (rw (← c.self.view_is) refl)
    (rw (← c.self.view_is, c.ready.ensures.motions, c.ready.ensures.places, c.ready.ensures.faults) (Continues-same _))
    (rw (← c.self.view_is, c.ready.ensures.faults) (omega arith))
    (rw (← c.self.view_is) (left-through g.D.Disk c.self.inside.ledger.disk _ (λ entry. entry ≡ Loaded c.args.unit c.args.count) (g.met.D.Disk.only_now c.self.inside.ledger.disk) c.self.invariant.1
    c.self.invariant.0.recorded
    (λ told records p entry now may grows. IsRecorded-entry _ _ records (Loaded c.args.unit c.args.count) _ now tt (rw may at grows) (c.self.invariant.0.recorded told records p))))) (λ keeps. search rules)

pub returns-then-outcome-clause-uses : goal.returns-then-outcome-clause-uses
returns-then-outcome-clause-uses g c = uses-keeping (let reported = rw (c.ready.ensures.motions, c.ready.ensures.places) at c.load-outcome.ensures.reported in
    Keeps-moved g.D.Disk _ _ _ g.met.D.Disk.only_now (rw (← c.self.view_is) refl)
    (rw (← c.self.view_is) (Continues-report _ (Loaded c.args.unit c.args.count) c.load-outcome.result.failed
    (g.M.Mechanism.motions c.load-outcome.new.self) (g.M.Mechanism.places c.load-outcome.new.self) (g.M.Mechanism.faults c.load-outcome.new.self) c.self.inside.ledger.loaded
    tt reported))
    (rw (← c.self.view_is) (rw c.ready.ensures.faults at c.load-outcome.ensures.cause.later))
    (rw (← c.self.view_is) (left-through g.D.Disk c.self.inside.ledger.disk _ (λ entry. entry ≡ Loaded c.args.unit c.args.count) (g.met.D.Disk.only_now c.self.inside.ledger.disk) c.self.invariant.1
    c.self.invariant.0.recorded
    (λ told records p entry now may grows. IsRecorded-entry _ _ records (Loaded c.args.unit c.args.count) _ now tt (rw may at grows) (c.self.invariant.0.recorded told records p))))) (λ keeps. search rules)

pub returns-clause-uses : goal.returns-clause-uses
returns-clause-uses g c = uses-keeping (let reported = rw (c.ready.ensures.motions, c.ready.ensures.places) at c.load-outcome.ensures.reported in
    rw c.count_load.ensures.counted (Keeps-moved g.D.Disk _ _ _ g.met.D.Disk.only_now (rw (← c.self.view_is) refl)
    (rw (← c.self.view_is) (Continues-report _ (Loaded c.args.unit c.args.count) c.load-outcome.result.failed
    (g.M.Mechanism.motions c.load-outcome.new.self) (g.M.Mechanism.places c.load-outcome.new.self) (g.M.Mechanism.faults c.load-outcome.new.self) (with_notes c.self.inside.ledger.loaded c.args.unit c.args.count)
    tt reported))
    (rw (← c.self.view_is) (rw c.ready.ensures.faults at c.load-outcome.ensures.cause.later))
    (rw (← c.self.view_is) (left-through g.D.Disk c.self.inside.ledger.disk _ (λ entry. entry ≡ Loaded c.args.unit c.args.count) (g.met.D.Disk.only_now c.self.inside.ledger.disk) c.self.invariant.1
    c.self.invariant.0.recorded
    (λ told records p entry now may grows. IsRecorded-entry _ _ records (Loaded c.args.unit c.args.count) _ now tt (rw may at grows) (c.self.invariant.0.recorded told records p)))))) (λ keeps. search rules)
