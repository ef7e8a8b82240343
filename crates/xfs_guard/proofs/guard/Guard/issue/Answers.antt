use Rattle.std.proofs.Common.{◌≡◌, ◌≤◌, ◌∙◌, refl, sym, length, None, arith, rules}
use Rattle.xfs_journal.specs.Image.{body}
use Rattle.xfs_guard.specs.declared.open.Open.TheVariants.{No}
use Rattle.xfs_journal.specs.declared.record.Rec.TheVariants.{Issue}
use Rattle.xfs_guard.proofs.LedgerLaws.{live-issued}
use Rattle.xfs_guard.proofs.ContinueLaws.{Continues-written}
use Rattle.xfs_guard.proofs.KeepsLaws.{Keeps-same, Keeps-wrote, writes-keeping}
use Rattle.xfs_guard.proofs.KeptLaws.{IsKept-open, IsKept-refused, Continues-refused}
use Rattle.xfs_guard.proofs.BalanceLaws.{balanced-push}
use Rattle.xfs_guard.proofs.SizeLaws.{fit-at, takes-one, may-write}
use Rattle.xfs_guard.proofs.RecordLaws.{IsSound-issue}
use Rattle.xfs_guard.proofs.LeftLaws.{left-written}
use Rattle.xfs_guard.proofs.LifeLaws.{next-fresh}
use Rattle.xfs_guard.proofs.BehindLaws.{behind-refused, behind-written}
use Rattle.xfs_guard.proofs.PossibleLaws.{leaves-list, leaves-refused}
use Rattle.xfs_guard.proofs.StandLaws.{grows-issue}
use Rattle.xfs_guard.proofs.guard.Guard.issue.Goals as goal

pub issue-requires-clause-fits : goal.issue-requires-clause-fits
issue-requires-clause-fits g c =
    let fit = fit-at _ _ c.self.view_is (sym c.unfit.ensures.first ∙ c.in_default.is) in
    let short : length (body (Issue c.of-nonce.result.number c.at-word.result)) ≤ 1025 = omega arith in
    may-write c.self.inside.ledger (Issue c.of-nonce.result.number c.at-word.result) fit.0 fit.2 (takes-one c.self.inside.ledger.limits c.self.inside.ledger.base c.self.inside.ledger.records (Issue c.of-nonce.result.number c.at-word.result) fit.1 short)

pub invariant_of-self : goal.invariant_of-self
invariant_of-self g c = (
  (let none : c.self.inside.open_order ≡ No = rw (← c.self.view_is) at c.requires in
      let fit = fit-at _ _ c.self.view_is (sym c.unfit.ensures.first ∙ c.in_default.is) in
      IsKept-refused Unit c.in_err-issue.field-0.0 _ _ _ _ _ _ c.self.inside.ledger c.issue.new.self _ None _ _ _ _ _ _ c.in_err-issue.ensures.writes.wrote c.in_err-issue.ensures.writes.err c.issue.ensures.writes.told none c.self.invariant.0 fit.0 fit.2
      (IsSound-issue _ c.of-nonce.result.number c.at-word.result (c.self.invariant.0.sound fit.0 fit.2) none (c.of-nonce.ensures.number ∙ c.next_issue-number.ensures))),
  leaves-refused g.D.Disk Unit c.in_err-issue.field-0.0 c.self.inside.ledger c.issue.new.self (Issue c.of-nonce.result.number c.at-word.result) None g.met.D.Disk.counts_now c.in_err-issue.ensures.writes.wrote c.in_err-issue.ensures.writes.err c.issue.ensures.writes.told c.issue.ensures.writes.any_moment c.self.invariant.1,
)

pub invariant_of-self-2 : goal.invariant_of-self-2
invariant_of-self-2 g c = (
  (let none : c.self.inside.open_order ≡ No = rw (← c.self.view_is) at c.requires in
      let fit = fit-at _ _ c.self.view_is (sym c.unfit.ensures.first ∙ c.in_default.is) in
      let w = c.in_ok-issue.ensures.writes.wrote in
      rw (w.records, w.base, w.units, w.bound_is, w.booted, w.loaded, w.limits, w.open_still, w.boot_missing, w.in_doubt, c.issue.ensures.writes.told, none, c.turn_to.ensures)
      (IsKept-open _ _ _ _ (IsSound-issue _ c.of-nonce.result.number c.at-word.result (c.self.invariant.0.sound fit.0 fit.2) none (c.of-nonce.ensures.number ∙ c.next_issue-number.ensures)) (balanced-push c.self.inside.ledger.records (Issue c.of-nonce.result.number c.at-word.result) _ _ _ c.self.invariant.0.balanced) fit.2 tt tt c.self.invariant.0.units)),
  leaves-list g.D.Disk c.issue.new.self.disk c.issue.new.self.records c.issue.new.self.in_doubt c.in_ok-issue.ensures.writes.kept,
)

pub returns-clause-live : goal.returns-clause-live
returns-clause-live g c =
    rw c.in_ok-issue.ensures.writes.wrote.records (live-issued c.self.inside.ledger.records _ c.at-word.result c.of-nonce.result (rw (← c.of-nonce.ensures.number) at c.of-nonce.ensures.text) refl)

pub returns-clause-never_twice : goal.returns-clause-never_twice
returns-clause-never_twice g c =
    let fit = fit-at _ _ c.self.view_is (sym c.unfit.ensures.first ∙ c.in_default.is) in
    rw (← c.self.view_is) (λ told first runs life.
    rw (c.of-nonce.ensures.number, c.next_issue-number.ensures) (next-fresh first runs c.self.inside.ledger.records life ((c.self.invariant.0.sound fit.0 fit.2).numbered told)))

pub returns-in-Some-clause-writes : goal.returns-in-Some-clause-writes
returns-in-Some-clause-writes g c = writes-keeping (Keeps-same g.D.Disk _ g.met.D.Disk.only_now c.unfit.ensures.upheld) (λ keeps. search rules)

pub returns-in_err-issue-clause-writes : goal.returns-in_err-issue-clause-writes
returns-in_err-issue-clause-writes g c = writes-keeping (Keeps-wrote g.D.Disk _ _
    (let none : c.self.inside.open_order ≡ No = rw (← c.self.view_is) at c.requires in
    let fit = fit-at _ _ c.self.view_is (sym c.unfit.ensures.first ∙ c.in_default.is) in
    rw (← c.self.view_is) (Continues-refused Unit c.in_err-issue.field-0.0 _ _ _ _ _ _ c.self.inside.ledger c.issue.new.self _ None _ _ c.in_err-issue.ensures.writes.wrote c.in_err-issue.ensures.writes.err c.issue.ensures.writes.told (c.self.invariant.0.clean fit.0) fit.0 fit.2 (λ p e. cc) No
    (grows-issue _ c.of-nonce.result.number c.at-word.result (c.self.invariant.0.sound fit.0 fit.2) none (c.of-nonce.ensures.number ∙ c.next_issue-number.ensures))))
    (rw (← c.self.view_is) c.issue.ensures.writes.faults) (rw (← c.self.view_is) (omega arith))
    (rw (← c.self.view_is) (behind-refused Unit g.D.Disk c.in_err-issue.field-0.0 _ _ _ _ _ _ c.self.inside.ledger c.issue.new.self _ None _ _ g.met.D.Disk.only_now c.in_err-issue.ensures.writes.wrote c.in_err-issue.ensures.writes.err c.issue.ensures.writes.told c.issue.ensures.writes.any_moment))
    (let none : c.self.inside.open_order ≡ No = rw (← c.self.view_is) at c.requires in
    let fit = fit-at _ _ c.self.view_is (sym c.unfit.ensures.first ∙ c.in_default.is) in
    let sound = c.self.invariant.0.sound fit.0 fit.2 in
    rw (← c.self.view_is) (left-written g.D.Disk c.self.inside.ledger.disk c.issue.new.self.disk _ (Issue c.of-nonce.result.number c.at-word.result) None No refl sound (IsSound-issue _ c.of-nonce.result.number c.at-word.result sound none (c.of-nonce.ensures.number ∙ c.next_issue-number.ensures)) c.issue.ensures.writes.any_moment))) (λ keeps. search rules)

pub returns-clause-writes : goal.returns-clause-writes
returns-clause-writes g c = writes-keeping (Keeps-wrote g.D.Disk _ _
    (let none : c.self.inside.open_order ≡ No = rw (← c.self.view_is) at c.requires in
    let fit = fit-at _ _ c.self.view_is (sym c.unfit.ensures.first ∙ c.in_default.is) in
    let w = c.in_ok-issue.ensures.writes.wrote in
    rw (← c.self.view_is, w.records, w.base, w.units, w.bound_is, w.booted, w.loaded, w.limits, w.open_still, w.boot_missing, w.in_doubt, c.issue.ensures.writes.told, c.turn_to.ensures)
    (Continues-written _ (Issue c.of-nonce.result.number c.at-word.result) None c.self.inside.open_order (c.self.invariant.0.clean fit.0) fit.0 fit.2 (λ p e. cc) No none
    (grows-issue _ c.of-nonce.result.number c.at-word.result (c.self.invariant.0.sound fit.0 fit.2) none (c.of-nonce.ensures.number ∙ c.next_issue-number.ensures))))
    (rw (← c.self.view_is) c.issue.ensures.writes.faults) (rw (← c.self.view_is) (omega arith))
    (rw (← c.self.view_is) (behind-written g.D.Disk _ _ (Issue c.of-nonce.result.number c.at-word.result) c.issue.ensures.writes.told c.issue.ensures.writes.any_moment c.in_ok-issue.ensures.writes.wrote.records))
    (let none : c.self.inside.open_order ≡ No = rw (← c.self.view_is) at c.requires in
    let fit = fit-at _ _ c.self.view_is (sym c.unfit.ensures.first ∙ c.in_default.is) in
    let sound = c.self.invariant.0.sound fit.0 fit.2 in
    rw (← c.self.view_is) (left-written g.D.Disk c.self.inside.ledger.disk c.issue.new.self.disk _ (Issue c.of-nonce.result.number c.at-word.result) None No refl sound (IsSound-issue _ c.of-nonce.result.number c.at-word.result sound none (c.of-nonce.ensures.number ∙ c.next_issue-number.ensures)) c.issue.ensures.writes.any_moment))) (λ keeps. search rules)
