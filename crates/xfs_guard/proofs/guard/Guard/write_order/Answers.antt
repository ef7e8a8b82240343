use Rattle.std.proofs.Common.{◌≡◌, ◌≤◌, ◌∙◌, inr, length, arith, refl, rules}
use Rattle.xfs_guard.specs.declared.open.Open.TheVariants.{No, Written}
use Rattle.xfs_journal.specs.Image.{body}
use Rattle.xfs_journal.specs.declared.record.Rec.TheVariants.{Order}
use Rattle.xfs_guard.proofs.ContinueLaws.{Continues-written, Continues-doubted}
use Rattle.xfs_guard.proofs.KeepsLaws.{Keeps-still, Keeps-wrote, writes-keeping}
use Rattle.xfs_guard.proofs.KeptLaws.{IsKept-open, IsKept-doubted}
use Rattle.xfs_guard.proofs.BalanceLaws.{balanced-push}
use Rattle.xfs_guard.proofs.SizeLaws.{fit-at, takes-one, may-write, order-short, leaves-done}
use Rattle.xfs_guard.proofs.OrderLaws.{IsSound-asked}
use Rattle.xfs_guard.proofs.LeftLaws.{left-written}
use Rattle.xfs_guard.proofs.BehindLaws.{behind-doubted, behind-written}
use Rattle.xfs_guard.proofs.PossibleLaws.{leaves-list, leaves-refused}
use Rattle.xfs_guard.proofs.StandLaws.{grows-order}
use Rattle.xfs_guard.proofs.guard.Guard.write_order.Goals as goal

pub order-requires-clause-fits : goal.order-requires-clause-fits
order-requires-clause-fits g c =
    let fit = fit-at _ _ c.self.view_is c.requires.fit in
    let same = c.in_ok-reserve_two.ensures.same in
    let eight = order-short c.args.kind c.args.counts (omega arith) in
    let short : length (body (Order c.args.kind c.args.counts)) ≤ 1025 = omega (arith, eight) in
    may-write c.reserve_two.new.self (Order c.args.kind c.args.counts) (same.shut ∙ fit.0) (same.boot_missing ∙ fit.2)
    (rw (same.limits, same.base, same.records) (takes-one c.self.inside.ledger.limits c.self.inside.ledger.base c.self.inside.ledger.records (Order c.args.kind c.args.counts) fit.1 short))

pub invariant_of-self-in_err-order : goal.invariant_of-self-in_err-order
invariant_of-self-in_err-order g c = (
  (let none : c.self.inside.open_order ≡ No = rw (← c.self.view_is) at c.requires.none in
      let fit = fit-at _ _ c.self.view_is c.requires.fit in
      let fine = rw (← c.self.view_is) at c.requires.admitted.1 in
      let same = c.in_ok-reserve_two.ensures.same in
      let s = rw c.in_err-order.ensures.err at c.in_err-order.ensures.writes.wrote in
      let sound = c.self.invariant.0.sound fit.0 fit.2 in
      rw (s.records, s.base, s.units, s.bound, s.booted, s.loaded, s.limits, s.shut, s.boot_missing, s.in_doubt, c.order.ensures.writes.told, same.records, same.base, same.units, same.bound, same.booted, same.loaded, same.limits, same.boot_missing, same.disk, c.ready.ensures.motions, c.ready.ensures.places, c.ready.ensures.faults, none, fine.1, fine.2)
      (IsKept-doubted _ _ _ _ _ _ _ sound c.self.invariant.0.balanced (IsSound-asked _ c.requires.admitted.0 sound none fine.0) (c.ready.ensures.units ∙ c.self.invariant.0.units))),
  (let same = c.in_ok-reserve_two.ensures.same in
      leaves-refused g.D.Disk Unit c.in_err-order.field-0.0 c.reserve_two.new.self c.order.new.self (Order c.args.kind c.args.counts) _ g.met.D.Disk.counts_now c.in_err-order.ensures.writes.wrote (inr c.in_err-order.ensures.err) c.order.ensures.writes.told c.order.ensures.writes.any_moment (rw (same.disk, same.records, same.in_doubt) c.self.invariant.1)),
)

pub invariant_of-self-2 : goal.invariant_of-self-2
invariant_of-self-2 g c = (
  (let none : c.self.inside.open_order ≡ No = rw (← c.self.view_is) at c.requires.none in
      let fit = fit-at _ _ c.self.view_is c.requires.fit in
      let fine = rw (← c.self.view_is) at c.requires.admitted.1 in
      let long : length c.args.counts.0 ≡ 8 = omega arith in
      let eight = rw fine.2 at long in
      let same = c.in_ok-reserve_two.ensures.same in
      let w = c.in_ok-order.ensures.writes.wrote in
      let marked = rw (fine.1, fine.2) at (balanced-push c.self.inside.ledger.records (Order c.args.kind c.args.counts) _ _ _ c.self.invariant.0.balanced) in
      rw (w.records, w.base, w.units, w.bound_is, w.booted, w.loaded, w.limits, w.open_still, w.boot_missing, w.in_doubt, c.order.ensures.writes.told, same.records, same.base, same.units, same.bound, same.booted, same.loaded, same.limits, same.boot_missing, same.disk, c.ready.ensures.motions, c.ready.ensures.places, c.ready.ensures.faults, fine.1, fine.2)
      (IsKept-open _ _ _ _ (IsSound-asked _ c.requires.admitted.0 (c.self.invariant.0.sound fit.0 fit.2) none fine.0) marked fit.2
      (omega (arith, c.in_ok-ready.ensures.room), omega (arith, c.in_ok-reserve_two.ensures.ok, c.order.ensures.room))
      (leaves-done c.self.inside.ledger.limits c.self.inside.ledger.base c.self.inside.ledger.records _ _ fit.1 eight)
      (c.ready.ensures.units ∙ c.self.invariant.0.units))),
  leaves-list g.D.Disk c.order.new.self.disk c.order.new.self.records c.order.new.self.in_doubt c.in_ok-order.ensures.writes.kept,
)

pub returns-in_err-order-clause-writes : goal.returns-in_err-order-clause-writes
returns-in_err-order-clause-writes g c = writes-keeping (Keeps-wrote g.D.Disk _ _
    (let none : c.self.inside.open_order ≡ No = rw (← c.self.view_is) at c.requires.none in
    let fit = fit-at _ _ c.self.view_is c.requires.fit in
    let same = c.in_ok-reserve_two.ensures.same in
    let s = rw c.in_err-order.ensures.err at c.in_err-order.ensures.writes.wrote in
    rw (← c.self.view_is, s.records, s.base, s.units, s.bound, s.booted, s.loaded, s.limits, s.shut, s.boot_missing, s.in_doubt, c.order.ensures.writes.told, same.records, same.base, same.units, same.bound, same.booted, same.loaded, same.limits, same.boot_missing, same.disk, c.ready.ensures.motions, c.ready.ensures.places, c.ready.ensures.faults)
    (Continues-doubted _ (Order c.args.kind c.args.counts) c.self.inside.ledger.bound c.self.inside.open_order (Written c.args.kind c.args.counts) (c.self.invariant.0.clean fit.0) fit.0 fit.2 (λ p e. cc)
    (grows-order _ c.args.kind c.args.counts (c.self.invariant.0.sound fit.0 fit.2) none)))
    (let same = c.in_ok-reserve_two.ensures.same in rw (← c.self.view_is) (rw same.disk at c.order.ensures.writes.faults)) (rw (← c.self.view_is, c.ready.ensures.faults) (omega arith))
    (let same = c.in_ok-reserve_two.ensures.same in
    let s = rw c.in_err-order.ensures.err at c.in_err-order.ensures.writes.wrote in
    rw (← c.self.view_is) (behind-doubted g.D.Disk _ _ (Order c.args.kind c.args.counts) (rw same.disk at c.order.ensures.writes.told) (rw (same.records, same.disk) at c.order.ensures.writes.any_moment)
    (s.records ∙ same.records) s.shut s.in_doubt))
    (let none : c.self.inside.open_order ≡ No = rw (← c.self.view_is) at c.requires.none in
    let fit = fit-at _ _ c.self.view_is c.requires.fit in
    let fine = rw (← c.self.view_is) at c.requires.admitted.1 in
    let same = c.in_ok-reserve_two.ensures.same in
    let sound = c.self.invariant.0.sound fit.0 fit.2 in
    let moments = rw (same.disk, same.records) at c.order.ensures.writes.any_moment in
    rw (← c.self.view_is) (left-written g.D.Disk c.self.inside.ledger.disk c.order.new.self.disk _ (Order c.args.kind c.args.counts) c.self.inside.ledger.bound (Written c.args.kind c.args.counts) refl sound (rw (fine.1, fine.2) (IsSound-asked _ c.requires.admitted.0 sound none fine.0)) moments))) (λ keeps. search rules)

pub returns-clause-writes : goal.returns-clause-writes
returns-clause-writes g c = writes-keeping (Keeps-wrote g.D.Disk _ _
    (let none : c.self.inside.open_order ≡ No = rw (← c.self.view_is) at c.requires.none in
    let fit = fit-at _ _ c.self.view_is c.requires.fit in
    let same = c.in_ok-reserve_two.ensures.same in
    let w = c.in_ok-order.ensures.writes.wrote in
    rw (← c.self.view_is, w.records, w.base, w.units, w.bound_is, w.booted, w.loaded, w.limits, w.open_still, w.boot_missing, w.in_doubt, c.order.ensures.writes.told, same.records, same.base, same.units, same.bound, same.booted, same.loaded, same.limits, same.boot_missing, same.disk, c.ready.ensures.motions, c.ready.ensures.places, c.ready.ensures.faults)
    (Continues-written _ (Order c.args.kind c.args.counts) c.self.inside.ledger.bound (Written c.args.kind c.args.counts) (c.self.invariant.0.clean fit.0) fit.0 fit.2 (λ p e. cc) (Written c.args.kind c.args.counts) refl
    (grows-order _ c.args.kind c.args.counts (c.self.invariant.0.sound fit.0 fit.2) none)))
    (let same = c.in_ok-reserve_two.ensures.same in rw (← c.self.view_is) (rw same.disk at c.order.ensures.writes.faults)) (rw (← c.self.view_is, c.ready.ensures.faults) (omega arith))
    (let same = c.in_ok-reserve_two.ensures.same in
    rw (← c.self.view_is) (behind-written g.D.Disk _ _ (Order c.args.kind c.args.counts) (rw same.disk at c.order.ensures.writes.told) (rw (same.records, same.disk) at c.order.ensures.writes.any_moment)
    (rw same.records at c.in_ok-order.ensures.writes.wrote.records)))
    (let none : c.self.inside.open_order ≡ No = rw (← c.self.view_is) at c.requires.none in
    let fit = fit-at _ _ c.self.view_is c.requires.fit in
    let fine = rw (← c.self.view_is) at c.requires.admitted.1 in
    let same = c.in_ok-reserve_two.ensures.same in
    let sound = c.self.invariant.0.sound fit.0 fit.2 in
    let moments = rw (same.disk, same.records) at c.order.ensures.writes.any_moment in
    rw (← c.self.view_is) (left-written g.D.Disk c.self.inside.ledger.disk c.order.new.self.disk _ (Order c.args.kind c.args.counts) c.self.inside.ledger.bound (Written c.args.kind c.args.counts) refl sound (rw (fine.1, fine.2) (IsSound-asked _ c.requires.admitted.0 sound none fine.0)) moments))) (λ keeps. search rules)

pub returns-in_err-ready-clause-writes : goal.returns-in_err-ready-clause-writes
returns-in_err-ready-clause-writes g c = writes-keeping (rw (← c.self.view_is, c.ready.ensures.motions, c.ready.ensures.places, c.ready.ensures.faults) (Keeps-still g.D.Disk _ g.met.D.Disk.only_now c.self.invariant.1 c.self.invariant.0.recorded)) (λ keeps. search rules)

pub returns-in_err-reserve_two-clause-writes : goal.returns-in_err-reserve_two-clause-writes
returns-in_err-reserve_two-clause-writes g c = writes-keeping (let same = c.in_err-reserve_two.ensures.same in
    rw (← c.self.view_is, same.records, same.base, same.units, same.bound, same.booted, same.loaded, same.limits, same.shut, same.boot_missing, same.in_doubt, same.disk, c.ready.ensures.motions, c.ready.ensures.places, c.ready.ensures.faults) (Keeps-still g.D.Disk _ g.met.D.Disk.only_now c.self.invariant.1 c.self.invariant.0.recorded)) (λ keeps. search rules)
