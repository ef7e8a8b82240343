use Rattle.xfs_conversation.proofs.Fronts.{front_of}
use Rattle.xfs_conversation.proofs.fronts_are_conversations.Goals as goal

pub returns : goal.returns
returns c = λ texts frames pending h before later is. front_of h before later is
