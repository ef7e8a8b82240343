use Rattle.std.proofs.Common.{◌≡◌, ◌<◌, ◌-◌, ◌∙◌, None, sym, arith}
use Rattle.xfs_base.specs.Counts.{at}
use Rattle.std.specs.Prelude.{is_some}
use Rattle.xfs_guard.specs.Refusals.{notes_of, over_budget}
use Rattle.xfs_guard.specs.View.{over}
use Rattle.xfs_guard.proofs.LedgerLaws.{nonce-open}
use Rattle.xfs_guard.proofs.OrderLaws.{live-number, short-refused, told-live}
use Rattle.xfs_guard.proofs.SizeLaws.{fit-at}
use Rattle.xfs_guard.proofs.guard.Guard.stack_order.Goals as goal

pub over_budget-requires : goal.over_budget-requires
over_budget-requires g c =
    let fit = fit-at _ _ c.self.view_is c.requires.fit in
    let live = live-number c.self.inside.ledger.records c.in-Some.nonce (nonce-open c.self.inside.ledger.boot_missing c.self.inside.ledger.records c.in-Some.nonce fit.2 (sym c.in-Some.ensures)) in
    record { tells = record { open_still = (fit.0, fit.2); told = told-live _ live.0 (c.self.invariant.0.sound fit.0 fit.2) live.1 } }

pub returns-then-places-from-clause-err : goal.returns-then-places-from-clause-err
returns-then-places-from-clause-err g c =
    let fit = fit-at _ _ c.self.view_is c.requires.fit in
    let lives = nonce-open c.self.inside.ledger.boot_missing c.self.inside.ledger.records c.in-Some.nonce fit.2 (sym c.in-Some.ensures) in
    let v = over c.self.inside.key c.self.inside.words c.self.inside.open_order (g.M.Mechanism.motions c.self.inside.mech) (g.M.Mechanism.places c.self.inside.mech) (g.M.Mechanism.faults c.self.inside.mech) c.self.inside.ledger (is_some (g.D.Disk.held c.self.inside.ledger.disk)) in
    let number : c.in-Some.nonce.number ≡ c.args.issue = omega arith in
    let covered : over_budget v c.in-Some-amounts.amounts.now (notes_of c.args.unit c.args.count) ≡ None =
    rw (← c.notes_of-counts.ensures.notes, ← c.survey-places.ensures) (sym c.over_budget.ensures ∙ c.in_default-over_budget.is) in
    let short : at v.places.units (c.args.unit - 1) < c.args.count = rw (← c.survey-places.ensures) (rw c.from.ensures at c.if-places-from.true) in
    (λ e. cc, λ e. cc, rw (← c.self.view_is) (short-refused v c.args.issue c.args.unit c.args.count c.in-Some.nonce c.in-Some-amounts.amounts.now lives number (sym c.in-Some-amounts.ensures) covered short))
