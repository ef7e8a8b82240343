use Rattle.std.proofs.Common.{◌∙◌, refl, arith, rules}
use Rattle.xfs_mech.specs.declared.motion.Motion.TheVariants.{Taken}
use Rattle.xfs_guard.proofs.BalanceLaws.{balanced-taking}
use Rattle.xfs_guard.proofs.ReportLaws.{IsSound-report, IsRecorded-entry, IsRecorded-report, HasRoom-report, HasLimits-report, Continues-report, taken-leaves}
use Rattle.xfs_guard.proofs.ContinueLaws.{Continues-same}
use Rattle.xfs_guard.specs.CrashOutcomes.{MayTake}
use Rattle.xfs_guard.proofs.KeepsLaws.{Keeps-moved, uses-keeping}
use Rattle.xfs_guard.proofs.LeftLaws.{left-through}
use Rattle.xfs_guard.proofs.guard.Guard.taken.Goals as goal

pub invariant_of-self-2 : goal.invariant_of-self-2
invariant_of-self-2 g c = (
  (let reported = rw (c.ready.ensures.motions, c.ready.ensures.places) at c.taken.ensures.reported in
      let other = rw (← c.self.view_is) at c.requires.no_retract in
      record {
        sound = λ still booted. IsSound-report _ (Taken c.taken.result.moved) c.taken.result.failed
            (g.M.Mechanism.motions c.taken.new.self) (g.M.Mechanism.places c.taken.new.self) (g.M.Mechanism.faults c.taken.new.self) c.self.inside.ledger.loaded
            (c.self.invariant.0.sound still booted) tt reported (taken-leaves c.self.inside.open_order c.taken.result.moved _ _ other);
        clean = c.self.invariant.0.clean;
        balanced = balanced-taking _ _ _ _ _ c.taken.result.moved c.taken.result.failed _ _ reported c.self.invariant.0.balanced;
        closed = c.self.invariant.0.closed;
        missing = c.self.invariant.0.missing;
        recorded = λ told records p. IsRecorded-report _ _ records (Taken c.taken.result.moved) c.taken.result.failed _ _ _ _ tt reported (c.self.invariant.0.recorded told records p);
        limits = HasLimits-report c.self.inside.open_order _ _ _ _ _ c.self.invariant.0.limits;
        room = HasRoom-report c.self.inside.open_order c.taken.result.failed (g.M.Mechanism.room c.self.inside.mech) _ _ c.self.inside.ledger.room c.self.invariant.0.room c.in_ok-ready.ensures.room c.taken.ensures.room;
        units = c.taken.ensures.units ∙ (c.ready.ensures.units ∙ c.self.invariant.0.units);
      }),
  c.self.invariant.1,
)

pub returns-clause-ok : goal.returns-clause-ok
returns-clause-ok g c =
    let reported = rw (c.ready.ensures.motions, c.ready.ensures.places) at c.taken.ensures.reported in
    rw (← c.self.view_is) (record { reported = reported; told = c.taken.ensures.moved; same = refl })

pub returns-in_err-ready-clause-uses : goal.returns-in_err-ready-clause-uses
returns-in_err-ready-clause-uses g c = uses-keeping (Keeps-moved g.D.Disk _ _ _ g.met.D.Disk.only_now (rw (← c.self.view_is) refl)
    (rw (← c.self.view_is, c.ready.ensures.motions, c.ready.ensures.places, c.ready.ensures.faults) (Continues-same _))
    (rw (← c.self.view_is, c.ready.ensures.faults) (omega arith))
    (rw (← c.self.view_is) (left-through g.D.Disk c.self.inside.ledger.disk _ (MayTake _) (g.met.D.Disk.only_now c.self.inside.ledger.disk) c.self.invariant.1
    c.self.invariant.0.recorded
    (λ told records p entry now may grows. IsRecorded-entry _ _ records (Taken may.counts) _ now tt (rw may.entry_is at grows) (c.self.invariant.0.recorded told records p))))) (λ keeps. search rules)

pub returns-clause-uses : goal.returns-clause-uses
returns-clause-uses g c = uses-keeping (Keeps-moved g.D.Disk _ _ _ g.met.D.Disk.only_now (rw (← c.self.view_is) refl)
    (let reported = rw (c.ready.ensures.motions, c.ready.ensures.places) at c.taken.ensures.reported in
    rw (← c.self.view_is) (Continues-report _ (Taken c.taken.result.moved) c.taken.result.failed
    (g.M.Mechanism.motions c.taken.new.self) (g.M.Mechanism.places c.taken.new.self) (g.M.Mechanism.faults c.taken.new.self) c.self.inside.ledger.loaded
    tt reported))
    (rw (← c.self.view_is) (rw c.ready.ensures.faults at c.taken.ensures.cause.later))
    (rw (← c.self.view_is) (left-through g.D.Disk c.self.inside.ledger.disk _ (MayTake _) (g.met.D.Disk.only_now c.self.inside.ledger.disk) c.self.invariant.1
    c.self.invariant.0.recorded
    (λ told records p entry now may grows. IsRecorded-entry _ _ records (Taken may.counts) _ now tt (rw may.entry_is at grows) (c.self.invariant.0.recorded told records p))))) (λ keeps. search rules)
