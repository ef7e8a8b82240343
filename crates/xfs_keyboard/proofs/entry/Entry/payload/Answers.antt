use Rattle.std.proofs.Common.{◌++◌, sym, subst, take}
use Rattle.std.proofs.lemmas.Result.{IfOk-weaker}
use Rattle.xfs_envelope.specs.Messages.{IsPayload}
use Rattle.xfs_keyboard.specs.Entries.{listed}
use Rattle.xfs_keyboard.proofs.PinLaws.{entry_payload-IsPayload}
use Rattle.xfs_keyboard.proofs.entry.Entry.payload.Goals as goal

pub returns-clause-sendable : goal.returns-clause-sendable
returns-clause-sendable c =
    let sent = entry_payload-IsPayload c.args.completion.now (take c.edit-kept.result.0 c.deref.result.now ++ listed c.edit-kept.result.1) in
    IfOk-weaker c.entry_payload.result _ _ (λ v is. subst IsPayload (sym is) sent) c.entry_payload.ensures
