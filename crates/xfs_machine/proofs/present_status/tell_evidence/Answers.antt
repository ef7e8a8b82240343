use Rattle.std.proofs.Common.{◌≡◌, sym, ◌∙◌}
use Rattle.std.proofs.lemmas.Result.{IfOk-weaker}
use Rattle.xfs_token.proofs.Ascii.{spelled-IsUtf8}
use Rattle.xfs_machine.proofs.Presents.{tells_no_issue, tells_token, tells_unsettled}
use Rattle.xfs_machine.proofs.present_status.tell_evidence.Goals as goal

pub tell_token-requires : goal.tell_token-requires
tell_token-requires g c = rw (c.deref.ensures.value) (spelled-IsUtf8 _ _ c.in-Ok.ensures.ok.told.genuine.spelled)

pub returns-in-Ok : goal.returns-in-Ok
returns-in-Ok g c = IfOk-weaker c.tell_token.result _ _ (λ result told.
    tells_token c.args.guard.now.state c.args.nonce.now c.in-Ok.token.items _ c.in-Ok.token (rw (c.base-base.ensures.base, c.records-records.ensures.records) at c.in-Ok.ensures.refused) (rw (c.signer.ensures, c.units.ensures, c.records-records.ensures.records) at c.in-Ok.ensures.ok) result
    (rw (c.deref.ensures.value) at told)) c.tell_token.ensures

pub returns-in-Err-NoIssue : goal.returns-in-Err-NoIssue
returns-in-Err-NoIssue g c = IfOk-weaker c.error_outcome.result _ _ (λ result told. tells_no_issue _ c.args.guard.now.state c.args.nonce.now _ (rw (c.base-base.ensures.base, c.records-records.ensures.records, c.in-Err-NoIssue.field-0-is) at c.in-Err-NoIssue.ensures.refused) result told) c.error_outcome.ensures

pub returns-in-Err-Unsettled : goal.returns-in-Err-Unsettled
returns-in-Err-Unsettled g c = IfOk-weaker c.error_outcome-in-Err-Unsettled.result _ _ (λ result told. tells_unsettled _ c.args.guard.now.state c.args.nonce.now _ c.in-Err-Unsettled.field-0-0 (rw (c.base-base.ensures.base, c.records-records.ensures.records, c.in-Err-Unsettled.field-0-is) at c.in-Err-Unsettled.ensures.refused) result told) c.error_outcome-in-Err-Unsettled.ensures
