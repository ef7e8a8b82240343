use Rattle.std.proofs.Common.{ℕ, List}
use Rattle.xfs_script.specs.ReplayLines.{IsSay}
use Rattle.xfs_token.proofs.AmountReading.{IfNone_from}
use Rattle.xfs_script.proofs.FieldLists.{parts_some}
use Rattle.xfs_script.proofs.ReplayFields.{no_message, no_speaker, say_is}
use Rattle.xfs_script.proofs.replay_fields.read_say.Goals as goal

pub returns-in_err-message-clause-none : goal.returns-in_err-message-clause-none
returns-in_err-message-clause-none c =
    IfNone_from _ ((client : ℕ) (message : List ℕ) → IsSay c.args.text.now client message → ⊥)
    (no_message c.args.text.now c.in_ok-field.field.now c.cut.result.0.now c.cut.result.1 c.in_ok-field.ensures.found c.in_err-message.was c.cut.ensures.parts)

pub returns-in_err-client-clause-none : goal.returns-in_err-client-clause-none
returns-in_err-client-clause-none c =
    IfNone_from _ ((client : ℕ) (message : List ℕ) → IsSay c.args.text.now client message → ⊥)
    (no_speaker c.args.text.now c.in_ok-field.field.now c.cut.result.0.now c.in_ok-message.message.now c.in_ok-field.ensures.found
    (parts_some c.in_ok-field.field.now c.cut.result.0.now c.cut.result.1 c.in_ok-message.message c.in_ok-message.was c.cut.ensures.parts) c.in_err-client.ensures.none)

pub returns-clause-found : goal.returns-clause-found
returns-clause-found c =
    say_is c.args.text.now c.in_ok-field.field.now c.cut.result.0.now c.in_ok-message.message.now c.in_ok-client.client c.in_ok-field.ensures.found
    (parts_some c.in_ok-field.field.now c.cut.result.0.now c.cut.result.1 c.in_ok-message.message c.in_ok-message.was c.cut.ensures.parts) c.in_ok-client.ensures.found
