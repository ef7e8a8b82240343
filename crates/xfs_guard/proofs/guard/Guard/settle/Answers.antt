use Rattle.std.proofs.Common.{inr, refl, arith}
use Rattle.xfs_guard.specs.declared.open.Open.TheVariants.{No}
use Rattle.xfs_journal.specs.declared.record.Rec.TheVariants.{Done}
use Rattle.xfs_guard.proofs.ContinueLaws.{Continues-written, Continues-doubted}
use Rattle.xfs_guard.proofs.KeepsLaws.{Keeps-wrote}
use Rattle.xfs_guard.proofs.KeptLaws.{IsKept-open, IsKept-doubted, still-acted}
use Rattle.xfs_guard.proofs.BalanceLaws.{balanced-push}
use Rattle.xfs_guard.proofs.SizeLaws.{may-write}
use Rattle.xfs_guard.proofs.RecordLaws.{IsSound-done}
use Rattle.xfs_guard.proofs.OrderLaws.{small-done}
use Rattle.xfs_guard.proofs.LeftLaws.{left-written}
use Rattle.xfs_guard.proofs.BehindLaws.{behind-doubted, behind-written}
use Rattle.xfs_guard.proofs.PossibleLaws.{leaves-list, leaves-refused}
use Rattle.xfs_guard.proofs.StandLaws.{grows-done}
use Rattle.xfs_guard.proofs.guard.Guard.settle.Goals as goal

pub done-requires-clause-fits : goal.done-requires-clause-fits
done-requires-clause-fits g c =
    let still = still-acted _ _ _ _ _ _ c.self.invariant.0.closed c.in-Acted.is in
    let booted = still-acted _ _ _ _ _ _ c.self.invariant.0.missing c.in-Acted.is in
    may-write c.self.inside.ledger (Done c.in-Acted.moved c.in-Acted.diverted) still booted (rw c.in-Acted.is at c.self.invariant.0.limits)

pub done-requires-clause-small : goal.done-requires-clause-small
done-requires-clause-small g c =
    let still = still-acted _ _ _ _ _ _ c.self.invariant.0.closed c.in-Acted.is in
    let booted = still-acted _ _ _ _ _ _ c.self.invariant.0.missing c.in-Acted.is in
    small-done _ c.in-Acted.kind c.in-Acted.moved c.in-Acted.diverted c.in-Acted.failed (c.self.invariant.0.sound still booted) c.in-Acted.is

pub invariant_of-self : goal.invariant_of-self
invariant_of-self g c = (
  (let still = still-acted _ _ _ _ _ _ c.self.invariant.0.closed c.in-Acted.is in
      let booted = still-acted _ _ _ _ _ _ c.self.invariant.0.missing c.in-Acted.is in
      let s = rw c.in_err-done.ensures.err at c.in_err-done.ensures.writes.wrote in
      rw (s.records, s.base, s.units, s.bound, s.booted, s.loaded, s.limits, s.shut, s.boot_missing, s.in_doubt, c.done.ensures.writes.told)
      (IsKept-doubted _ (Done c.in-Acted.moved c.in-Acted.diverted) c.self.inside.ledger.bound No _ _ _ (c.self.invariant.0.sound still booted) c.self.invariant.0.balanced
      (IsSound-done _ c.in-Acted.kind c.in-Acted.moved c.in-Acted.diverted c.in-Acted.failed (c.self.invariant.0.sound still booted) c.in-Acted.is) c.self.invariant.0.units)),
  leaves-refused g.D.Disk Unit c.in_err-done.field-0.0 c.self.inside.ledger c.done.new.self (Done c.in-Acted.moved c.in-Acted.diverted) c.self.inside.ledger.bound g.met.D.Disk.counts_now c.in_err-done.ensures.writes.wrote (inr c.in_err-done.ensures.err) c.done.ensures.writes.told c.done.ensures.writes.any_moment c.self.invariant.1,
)

pub invariant_of-self-2 : goal.invariant_of-self-2
invariant_of-self-2 g c = (
  (let still = still-acted _ _ _ _ _ _ c.self.invariant.0.closed c.in-Acted.is in
      let booted = still-acted _ _ _ _ _ _ c.self.invariant.0.missing c.in-Acted.is in
      let w = c.in_ok-done.ensures.writes.wrote in
      rw (w.records, w.base, w.units, w.bound_is, w.booted, w.loaded, w.limits, w.open_still, w.boot_missing, w.in_doubt, c.done.ensures.writes.told)
      (IsKept-open _ _ _ _ (IsSound-done _ c.in-Acted.kind c.in-Acted.moved c.in-Acted.diverted c.in-Acted.failed (c.self.invariant.0.sound still booted) c.in-Acted.is) (balanced-push c.self.inside.ledger.records (Done c.in-Acted.moved c.in-Acted.diverted) _ _ _ c.self.invariant.0.balanced) booted tt tt c.self.invariant.0.units)),
  leaves-list g.D.Disk c.done.new.self.disk c.done.new.self.records c.done.new.self.in_doubt c.in_ok-done.ensures.writes.kept,
)

pub returns-in_err-done-clause-keeps : goal.returns-in_err-done-clause-keeps
returns-in_err-done-clause-keeps g c =
    Keeps-wrote g.D.Disk _ _
    (let still = still-acted _ _ _ _ _ _ c.self.invariant.0.closed c.in-Acted.is in
    let booted = still-acted _ _ _ _ _ _ c.self.invariant.0.missing c.in-Acted.is in
    let s = rw c.in_err-done.ensures.err at c.in_err-done.ensures.writes.wrote in
    rw (← c.self.view_is, s.records, s.base, s.units, s.bound, s.booted, s.loaded, s.limits, s.shut, s.boot_missing, s.in_doubt, c.done.ensures.writes.told)
    (Continues-doubted _ (Done c.in-Acted.moved c.in-Acted.diverted) c.self.inside.ledger.bound No No (c.self.invariant.0.clean still) still booted (λ p e. cc)
    (grows-done _ c.in-Acted.kind c.in-Acted.moved c.in-Acted.diverted c.in-Acted.failed (c.self.invariant.0.sound still booted) c.in-Acted.is)))
    (rw (← c.self.view_is) c.done.ensures.writes.faults) (rw (← c.self.view_is) (omega arith))
    (let s = rw c.in_err-done.ensures.err at c.in_err-done.ensures.writes.wrote in
    rw (← c.self.view_is) (behind-doubted g.D.Disk _ _ (Done c.in-Acted.moved c.in-Acted.diverted) c.done.ensures.writes.told c.done.ensures.writes.any_moment s.records s.shut s.in_doubt))
    (let still = still-acted _ _ _ _ _ _ c.self.invariant.0.closed c.in-Acted.is in
    let booted = still-acted _ _ _ _ _ _ c.self.invariant.0.missing c.in-Acted.is in
    let sound = c.self.invariant.0.sound still booted in
    rw (← c.self.view_is) (left-written g.D.Disk c.self.inside.ledger.disk c.done.new.self.disk _ (Done c.in-Acted.moved c.in-Acted.diverted) c.self.inside.ledger.bound No refl sound (IsSound-done _ c.in-Acted.kind c.in-Acted.moved c.in-Acted.diverted c.in-Acted.failed sound c.in-Acted.is) c.done.ensures.writes.any_moment))

pub returns-clause-keeps : goal.returns-clause-keeps
returns-clause-keeps g c =
    Keeps-wrote g.D.Disk _ _
    (let still = still-acted _ _ _ _ _ _ c.self.invariant.0.closed c.in-Acted.is in
    let booted = still-acted _ _ _ _ _ _ c.self.invariant.0.missing c.in-Acted.is in
    let w = c.in_ok-done.ensures.writes.wrote in
    rw (← c.self.view_is, w.records, w.base, w.units, w.bound_is, w.booted, w.loaded, w.limits, w.open_still, w.boot_missing, w.in_doubt, c.done.ensures.writes.told)
    (Continues-written _ (Done c.in-Acted.moved c.in-Acted.diverted) c.self.inside.ledger.bound No (c.self.invariant.0.clean still) still booted (λ p e. cc) No refl
    (grows-done _ c.in-Acted.kind c.in-Acted.moved c.in-Acted.diverted c.in-Acted.failed (c.self.invariant.0.sound still booted) c.in-Acted.is)))
    (rw (← c.self.view_is) c.done.ensures.writes.faults) (rw (← c.self.view_is) (omega arith))
    (rw (← c.self.view_is) (behind-written g.D.Disk _ _ (Done c.in-Acted.moved c.in-Acted.diverted) c.done.ensures.writes.told c.done.ensures.writes.any_moment c.in_ok-done.ensures.writes.wrote.records))
    (let still = still-acted _ _ _ _ _ _ c.self.invariant.0.closed c.in-Acted.is in
    let booted = still-acted _ _ _ _ _ _ c.self.invariant.0.missing c.in-Acted.is in
    let sound = c.self.invariant.0.sound still booted in
    rw (← c.self.view_is) (left-written g.D.Disk c.self.inside.ledger.disk c.done.new.self.disk _ (Done c.in-Acted.moved c.in-Acted.diverted) c.self.inside.ledger.bound No refl sound (IsSound-done _ c.in-Acted.kind c.in-Acted.moved c.in-Acted.diverted c.in-Acted.failed sound c.in-Acted.is) c.done.ensures.writes.any_moment))
