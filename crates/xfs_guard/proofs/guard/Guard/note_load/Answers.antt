use Rattle.std.proofs.Common.{◌≡◌, ◌≤◌, ◌∙◌, sym, length, arith, refl, rules}
use Rattle.xfs_guard.specs.declared.open.Open.TheVariants.{No}
use Rattle.xfs_journal.specs.Image.{body}
use Rattle.xfs_journal.specs.declared.record.Rec.TheVariants.{Load}
use Rattle.xfs_guard.proofs.ContinueLaws.{Continues-written}
use Rattle.xfs_guard.proofs.KeepsLaws.{Keeps-same, Keeps-wrote, writes-keeping}
use Rattle.xfs_guard.proofs.KeptLaws.{IsKept-open, IsKept-refused, Continues-refused}
use Rattle.xfs_guard.proofs.BalanceLaws.{balanced-push}
use Rattle.xfs_guard.proofs.SizeLaws.{fit-at, takes-one, may-write}
use Rattle.xfs_guard.proofs.RecordLaws.{IsSound-load}
use Rattle.xfs_guard.proofs.LeftLaws.{left-written}
use Rattle.xfs_guard.proofs.BehindLaws.{behind-refused, behind-written}
use Rattle.xfs_guard.proofs.PossibleLaws.{leaves-list, leaves-refused}
use Rattle.xfs_guard.proofs.StandLaws.{grows-load}
use Rattle.xfs_guard.proofs.guard.Guard.note_load.Goals as goal

pub load-requires-clause-fits : goal.load-requires-clause-fits
load-requires-clause-fits g c =
    let fit = fit-at _ _ c.self.view_is (sym c.unfit.ensures.first ∙ c.in_default.is) in
    let short : length (body (Load c.args.unit c.args.count)) ≤ 1025 = omega arith in
    may-write c.self.inside.ledger (Load c.args.unit c.args.count) fit.0 fit.2 (takes-one c.self.inside.ledger.limits c.self.inside.ledger.base c.self.inside.ledger.records (Load c.args.unit c.args.count) fit.1 short)

pub invariant_of-self : goal.invariant_of-self
invariant_of-self g c = (
  (let none : c.self.inside.open_order ≡ No = rw (← c.self.view_is) at c.requires.none in
      let fit = fit-at _ _ c.self.view_is (sym c.unfit.ensures.first ∙ c.in_default.is) in
      IsKept-refused Unit c.in_err-load.field-0.0 _ _ _ _ _ _ c.self.inside.ledger c.load.new.self _ c.self.inside.ledger.bound _ _ _ _ _ _ c.in_err-load.ensures.writes.wrote c.in_err-load.ensures.writes.err c.load.ensures.writes.told none c.self.invariant.0 fit.0 fit.2
      (IsSound-load _ c.args.unit c.args.count (c.self.invariant.0.sound fit.0 fit.2) none)),
  leaves-refused g.D.Disk Unit c.in_err-load.field-0.0 c.self.inside.ledger c.load.new.self (Load c.args.unit c.args.count) c.self.inside.ledger.bound g.met.D.Disk.counts_now c.in_err-load.ensures.writes.wrote c.in_err-load.ensures.writes.err c.load.ensures.writes.told c.load.ensures.writes.any_moment c.self.invariant.1,
)

pub invariant_of-self-2 : goal.invariant_of-self-2
invariant_of-self-2 g c = (
  (let none : c.self.inside.open_order ≡ No = rw (← c.self.view_is) at c.requires.none in
      let fit = fit-at _ _ c.self.view_is (sym c.unfit.ensures.first ∙ c.in_default.is) in
      let w = c.in_ok-load.ensures.writes.wrote in
      rw (w.records, w.base, w.units, w.bound_is, w.booted, w.loaded, w.limits, w.open_still, w.boot_missing, w.in_doubt, c.load.ensures.writes.told, none)
      (IsKept-open _ _ _ _ (IsSound-load _ c.args.unit c.args.count (c.self.invariant.0.sound fit.0 fit.2) none) (balanced-push c.self.inside.ledger.records (Load c.args.unit c.args.count) _ _ _ c.self.invariant.0.balanced) fit.2 tt tt c.self.invariant.0.units)),
  leaves-list g.D.Disk c.load.new.self.disk c.load.new.self.records c.load.new.self.in_doubt c.in_ok-load.ensures.writes.kept,
)

pub returns-in-Some-clause-writes : goal.returns-in-Some-clause-writes
returns-in-Some-clause-writes g c = writes-keeping (Keeps-same g.D.Disk _ g.met.D.Disk.only_now c.unfit.ensures.upheld) (λ keeps. search rules)

pub returns-in_err-load-clause-writes : goal.returns-in_err-load-clause-writes
returns-in_err-load-clause-writes g c = writes-keeping (Keeps-wrote g.D.Disk _ _
    (let none : c.self.inside.open_order ≡ No = rw (← c.self.view_is) at c.requires.none in
    let fit = fit-at _ _ c.self.view_is (sym c.unfit.ensures.first ∙ c.in_default.is) in
    rw (← c.self.view_is) (Continues-refused Unit c.in_err-load.field-0.0 _ _ _ _ _ _ c.self.inside.ledger c.load.new.self _ c.self.inside.ledger.bound _ _ c.in_err-load.ensures.writes.wrote c.in_err-load.ensures.writes.err c.load.ensures.writes.told (c.self.invariant.0.clean fit.0) fit.0 fit.2 (λ p e. cc) No
    (grows-load _ c.args.unit c.args.count (c.self.invariant.0.sound fit.0 fit.2) none)))
    (rw (← c.self.view_is) c.load.ensures.writes.faults) (rw (← c.self.view_is) (omega arith))
    (rw (← c.self.view_is) (behind-refused Unit g.D.Disk c.in_err-load.field-0.0 _ _ _ _ _ _ c.self.inside.ledger c.load.new.self _ c.self.inside.ledger.bound _ _ g.met.D.Disk.only_now c.in_err-load.ensures.writes.wrote c.in_err-load.ensures.writes.err c.load.ensures.writes.told c.load.ensures.writes.any_moment))
    (let none : c.self.inside.open_order ≡ No = rw (← c.self.view_is) at c.requires.none in
    let fit = fit-at _ _ c.self.view_is (sym c.unfit.ensures.first ∙ c.in_default.is) in
    let sound = c.self.invariant.0.sound fit.0 fit.2 in
    rw (← c.self.view_is) (left-written g.D.Disk c.self.inside.ledger.disk c.load.new.self.disk _ (Load c.args.unit c.args.count) c.self.inside.ledger.bound No refl sound (IsSound-load _ c.args.unit c.args.count sound none) c.load.ensures.writes.any_moment))) (λ keeps. search rules)

pub returns-clause-writes : goal.returns-clause-writes
returns-clause-writes g c = writes-keeping (Keeps-wrote g.D.Disk _ _
    (let none : c.self.inside.open_order ≡ No = rw (← c.self.view_is) at c.requires.none in
    let fit = fit-at _ _ c.self.view_is (sym c.unfit.ensures.first ∙ c.in_default.is) in
    let w = c.in_ok-load.ensures.writes.wrote in
    rw (← c.self.view_is, w.records, w.base, w.units, w.bound_is, w.booted, w.loaded, w.limits, w.open_still, w.boot_missing, w.in_doubt, c.load.ensures.writes.told)
    (Continues-written _ (Load c.args.unit c.args.count) c.self.inside.ledger.bound c.self.inside.open_order (c.self.invariant.0.clean fit.0) fit.0 fit.2 (λ p e. cc) No none
    (grows-load _ c.args.unit c.args.count (c.self.invariant.0.sound fit.0 fit.2) none)))
    (rw (← c.self.view_is) c.load.ensures.writes.faults) (rw (← c.self.view_is) (omega arith))
    (rw (← c.self.view_is) (behind-written g.D.Disk _ _ (Load c.args.unit c.args.count) c.load.ensures.writes.told c.load.ensures.writes.any_moment c.in_ok-load.ensures.writes.wrote.records))
    (let none : c.self.inside.open_order ≡ No = rw (← c.self.view_is) at c.requires.none in
    let fit = fit-at _ _ c.self.view_is (sym c.unfit.ensures.first ∙ c.in_default.is) in
    let sound = c.self.invariant.0.sound fit.0 fit.2 in
    rw (← c.self.view_is) (left-written g.D.Disk c.self.inside.ledger.disk c.load.new.self.disk _ (Load c.args.unit c.args.count) c.self.inside.ledger.bound No refl sound (IsSound-load _ c.args.unit c.args.count sound none) c.load.ensures.writes.any_moment))) (λ keeps. search rules)
