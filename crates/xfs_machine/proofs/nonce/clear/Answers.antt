use Rattle.std.proofs.Common.{Bool, Ok, Err, sym, ap, ◌∙◌}
use Rattle.std.proofs.lemmas.Result.{IfOk-weaker}
use Rattle.xfs_dispenser.specs.Seen.{seen}
use Rattle.xfs_guard.proofs.KeepsLaws.{Keeps-same}
use Rattle.xfs_model.specs.State.{clear}
use Rattle.xfs_machine.proofs.NonceLaws.{clear_answer, clear_failed, unfit_refused, write_fault}
use Rattle.xfs_machine.proofs.nonce.clear.Goals as goal

pub returns-in-Some-clause-done : goal.returns-in-Some-clause-done
returns-in-Some-clause-done g c = λ s. rw c.not_ready.ensures (unfit_refused (record s { seen = seen g.D.Disk c.args.guard.now }) clear _ (sym c.unfit.ensures.first ∙ c.in-Some.is))

pub returns-in-Some-clause-keeps : goal.returns-in-Some-clause-keeps
returns-in-Some-clause-keeps g c = Keeps-same g.D.Disk _ g.met.D.Disk.only_now c.unfit.ensures.upheld

pub returns-in-Ok-clause-done : goal.returns-in-Ok-clause-done
returns-in-Ok-clause-done g c =
    let fit = sym c.unfit.ensures.first ∙ c.in_default.is in
    λ s. rw c.clear_outcome.ensures (clear_answer (record s { seen = seen g.D.Disk c.args.guard.now }) (seen g.D.Disk c.clear.new.self) c.in-Ok.lived fit
    c.in-Ok.ensures.dead.0 c.in-Ok.ensures.dead.1
    (λ e. c.clear.ensures.cleared (c.in-Ok.is ∙ ap Ok e))
    (λ e. ap (seen g.D.Disk) (c.clear.ensures.idle (c.in-Ok.is ∙ ap Ok e)))
    c.clear.ensures.writes.keeps.proceeds.disk_faults)

pub returns-in-Err-clause-done : goal.returns-in-Err-clause-done
returns-in-Err-clause-done g c =
    let fit = sym c.unfit.ensures.first ∙ c.in_default.is in
    IfOk-weaker c.failure.result _ _ (λ o h. λ s.
    let e = write_fault Bool c.in-Err.deny _ fit c.in-Err.ensures.refused h.1 in
    rw h.0 (clear_failed (record s { seen = seen g.D.Disk c.args.guard.now }) (seen g.D.Disk c.clear.new.self) fit
    (c.clear.ensures.unwritten (c.in-Err.is ∙ ap Err e)) (c.clear.ensures.writes.disk (c.in-Err.is ∙ ap Err e)) c.clear.ensures.writes.keeps.proceeds.disk_faults (c.clear.ensures.writes.cause (c.in-Err.is ∙ ap Err e)))) c.failure.ensures.told
