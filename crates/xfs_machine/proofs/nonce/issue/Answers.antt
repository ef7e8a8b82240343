use Rattle.std.proofs.Common.{Err, sym, ap, ◌∙◌}
use Rattle.std.proofs.lemmas.Result.{IfOk-weaker}
use Rattle.xfs_dispenser.specs.Seen.{seen}
use Rattle.xfs_guard.proofs.KeepsLaws.{Keeps-same}
use Rattle.xfs_guard.specs.declared.nonce.Nonce.{Nonce}
use Rattle.xfs_model.specs.State.{issue}
use Rattle.xfs_machine.proofs.NonceLaws.{issue_done, issue_failed, unfit_refused, write_fault}
use Rattle.xfs_machine.proofs.NonceTexts.{nonce_digits}
use Rattle.xfs_machine.proofs.nonce.issue.Goals as goal

pub returns-in-Some-clause-done : goal.returns-in-Some-clause-done
returns-in-Some-clause-done g c = λ s. rw c.not_ready.ensures (unfit_refused (record s { seen = seen g.D.Disk c.args.guard.now; issued = c.args.issued.now; now = c.args.now }) issue _ (sym c.unfit.ensures.first ∙ c.in-Some.is))

pub returns-in-Some-clause-keeps : goal.returns-in-Some-clause-keeps
returns-in-Some-clause-keeps g c = Keeps-same g.D.Disk _ g.met.D.Disk.only_now c.unfit.ensures.upheld

pub returns-in_err-next-clause-keeps : goal.returns-in_err-next-clause-keeps
returns-in_err-next-clause-keeps g c = Keeps-same g.D.Disk _ g.met.D.Disk.only_now c.unfit.ensures.upheld

pub nonce-requires : goal.nonce-requires
nonce-requires g c = record { digits = rw c.in_ok-next.ensures.text (nonce_digits _ _) }

pub returns-in_err-payload-clause-keeps : goal.returns-in_err-payload-clause-keeps
returns-in_err-payload-clause-keeps g c = Keeps-same g.D.Disk _ g.met.D.Disk.only_now c.unfit.ensures.upheld

pub returns-in-Ok-clause-done : goal.returns-in-Ok-clause-done
returns-in-Ok-clause-done g c =
    let marked = rw c.in-Ok.ensures.number at c.in-Ok.ensures.ok in
    λ s. rw c.new.ensures (issue_done (record s { seen = seen g.D.Disk c.args.guard.now; issued = c.args.issued.now; now = c.args.now }) (seen g.D.Disk c.issue.new.self) _ _ (sym c.unfit.ensures.first ∙ c.in_default.is)
    c.in_ok-payload.ensures c.in_ok-next.ensures.text marked c.issue.ensures.writes.keeps.proceeds.disk_faults)

pub returns-in-Err-clause-done : goal.returns-in-Err-clause-done
returns-in-Err-clause-done g c =
    let fit = sym c.unfit.ensures.first ∙ c.in_default.is in
    IfOk-weaker c.failure.result _ _ (λ o h. λ s.
    let e = write_fault Nonce c.in-Err.deny _ fit c.in-Err.ensures.refused h.1 in
    rw h.0 (issue_failed (record s { seen = seen g.D.Disk c.args.guard.now; issued = c.args.issued.now; now = c.args.now }) (seen g.D.Disk c.issue.new.self) fit
    (c.issue.ensures.writes.disk (c.in-Err.is ∙ ap Err e)) c.issue.ensures.writes.keeps.proceeds.disk_faults (c.issue.ensures.writes.cause (c.in-Err.is ∙ ap Err e)))) c.failure.ensures.told
