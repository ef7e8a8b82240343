use Rattle.std.proofs.Common.{refl, ◌≡◌, ◌∙◌, length, arith, rules}
use Rattle.xfs_guard.proofs.ContinueLaws.{Continues-act}
use Rattle.xfs_guard.proofs.KeptLaws.{IsKept-acted, still-open}
use Rattle.xfs_guard.specs.CrashOutcomes.{MayMove}
use Rattle.xfs_guard.proofs.KeepsLaws.{Keeps-moved, uses-keeping}
use Rattle.xfs_guard.proofs.LeftLaws.{left-through, one-possible, recorded-moved}
use Rattle.xfs_guard.proofs.StandLaws.{stands-act}
use Rattle.xfs_guard.proofs.guard.Guard.act.Goals as goal

pub invariant_of-self : goal.invariant_of-self
invariant_of-self g c = (
  (let number = c.newest-number.ensures.number in
      let e = rw (c.new.ensures.number, c.new.ensures.kind, c.new.ensures.counts) at c.execute-outcome.ensures in
      let motions = rw number at e.moved.grown in
      let places = rw number at e.moved.reached in
      let moved : length c.execute-outcome.result.moved.0 ≡ 8 = omega arith in
      let diverted : length c.execute-outcome.result.diverted.0 ≡ 8 = omega arith in
      IsKept-acted _ c.in-Written.kind c.in-Written.counts c.execute-outcome.result.moved c.execute-outcome.result.diverted c.execute-outcome.result.failed
      (g.M.Mechanism.motions c.execute-outcome.new.self) (g.M.Mechanism.places c.execute-outcome.new.self) (g.M.Mechanism.faults c.execute-outcome.new.self)
      _ _ _ _ _ c.self.invariant.0 c.in-Written.is moved diverted e.carried motions places (e.units ∙ c.self.invariant.0.units)),
  c.self.invariant.1,
)

pub returns-clause-uses : goal.returns-clause-uses
returns-clause-uses g c = uses-keeping (Keeps-moved g.D.Disk _ _ _ g.met.D.Disk.only_now (rw (← c.self.view_is) refl)
    (let number = c.newest-number.ensures.number in
    let e = rw (c.new.ensures.number, c.new.ensures.kind, c.new.ensures.counts) at c.execute-outcome.ensures in
    let motions = rw number at e.moved.grown in
    let places = rw number at e.moved.reached in
    let still = still-open _ _ _ _ c.self.invariant.0.closed c.in-Written.is in
    let booted = still-open _ _ _ _ c.self.invariant.0.missing c.in-Written.is in
    rw (← c.self.view_is) (Continues-act _ c.in-Written.kind c.execute-outcome.result.moved c.execute-outcome.result.diverted c.execute-outcome.result.failed
    (g.M.Mechanism.motions c.execute-outcome.new.self) (g.M.Mechanism.places c.execute-outcome.new.self) (g.M.Mechanism.faults c.execute-outcome.new.self) (c.self.invariant.0.clean still) motions places
    (stands-act _ c.in-Written.kind c.in-Written.counts c.execute-outcome.result.moved c.execute-outcome.result.diverted c.execute-outcome.result.failed
    (g.M.Mechanism.motions c.execute-outcome.new.self) (g.M.Mechanism.places c.execute-outcome.new.self) (g.M.Mechanism.faults c.execute-outcome.new.self)
    (c.self.invariant.0.sound still booted) still booted (c.self.invariant.0.clean still) c.in-Written.is e.carried motions)))
    (rw (← c.self.view_is) c.execute-outcome.ensures.cause.later)
    (let still = still-open _ _ _ _ c.self.invariant.0.closed c.in-Written.is in
    let booted = still-open _ _ _ _ c.self.invariant.0.missing c.in-Written.is in
    let none = c.self.invariant.0.clean still in
    rw (← c.self.view_is) (left-through g.D.Disk c.self.inside.ledger.disk _ (MayMove _) (g.met.D.Disk.only_now c.self.inside.ledger.disk) c.self.invariant.1
    c.self.invariant.0.recorded
    (λ told records p entry now may grows. rw (one-possible _ _ records none p) (recorded-moved _ entry now (c.self.invariant.0.sound still booted) told may grows))))) (λ keeps. search rules)
