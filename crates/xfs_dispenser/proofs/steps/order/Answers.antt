use Rattle.std.proofs.Common.{Err, inr, refl, ap}
use Rattle.std.proofs.lemmas.Result.{IfOk-weaker}
use Rattle.xfs_dispenser.proofs.DenyLaws.{on-err, refused-or-unwritten}
use Rattle.xfs_dispenser.proofs.steps.order.Goals as goal

pub returns-in-Err-clause-orders : goal.returns-in-Err-clause-orders
returns-in-Err-clause-orders g c =
    let e = c.in-Err.ensures in
    IfOk-weaker c.tell_denial.result _ _ (λ p told rest is. inr (
      refl,
      refused-or-unwritten (Unit {0}) g.D.Disk c.args.guard.now c.order.new.self _ _ c.in-Err.deny _ e.refused (λ x. e.writes.disk (ap (λ d. Err d) x)) e.writes.keeps.proceeds.disk_faults (λ x. e.writes.cause (ap (λ d. Err d) x)) e.writes.same told,
    )) c.tell_denial.ensures.told

pub returns-in-Err-clause-memory : goal.returns-in-Err-clause-memory
returns-in-Err-clause-memory g c = on-err c.tell_denial.result (λ other. (c.in-Err.ensures.writes.same other, refl)) c.tell_denial.ensures.disk
