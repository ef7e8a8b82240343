use Rattle.std.proofs.Common.{Err, inr, refl, ap}
use Rattle.std.proofs.lemmas.Result.{IfOk-weaker}
use Rattle.xfs_dispenser.proofs.DenyLaws.{refused-or-unwritten}
use Rattle.xfs_dispenser.proofs.StepLaws.{KeepsStep-same}
use Rattle.xfs_dispenser.proofs.steps.note.Goals as goal

pub returns-in_err-progress-clause-guard : goal.returns-in_err-progress-clause-guard
returns-in_err-progress-clause-guard g c = KeepsStep-same g.D.Disk _ _ c.from_residual.result _ c.from_residual.ensures.1 g.met.D.Disk.only_now

pub returns-in-Err-clause-notes : goal.returns-in-Err-clause-notes
returns-in-Err-clause-notes g c =
    let e = c.in-Err.ensures in
    IfOk-weaker c.tell_denial.result _ _ (λ p told rest is. inr (
      refl,
      refused-or-unwritten (Unit {0}) g.D.Disk c.args.guard.now c.note_load.new.self _ _ c.in-Err.deny _ e.refused (λ x. e.writes.disk (ap (λ d. Err d) x)) e.writes.keeps.proceeds.disk_faults (λ x. e.writes.cause (ap (λ d. Err d) x)) e.writes.same told,
    )) c.tell_denial.ensures.told
