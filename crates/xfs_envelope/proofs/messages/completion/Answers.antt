use Rattle.std.proofs.lemmas.Result.{IfOk-weaker}
use Rattle.serde_json.specs.View.{view}
use Rattle.xfs_envelope.proofs.messages.completion.Goals as goal

pub returns-clause-text : goal.returns-clause-text
returns-clause-text c = IfOk-weaker c.completion_of_text.result _ _ (λ t tells. tells (view c.args.payload.now) (rw c.deref.ensures c.in_ok-text.ensures)) c.completion_of_text.ensures.text

pub returns-clause-reads_back : goal.returns-clause-reads_back
returns-clause-reads_back c = IfOk-weaker c.completion_of_text.result _ _ (λ t tells. tells (view c.args.payload.now) (rw c.deref.ensures c.in_ok-text.ensures)) c.completion_of_text.ensures.reads_back
