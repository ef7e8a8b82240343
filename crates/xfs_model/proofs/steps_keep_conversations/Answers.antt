use Rattle.xfs_model.proofs.Steps.{keeps}
use Rattle.xfs_model.proofs.steps_keep_conversations.Goals as goal

pub returns : goal.returns
returns c = λ old new event answer machine is. keeps old new event answer machine is
