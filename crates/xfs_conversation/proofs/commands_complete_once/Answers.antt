use Rattle.xfs_conversation.proofs.Once.{once_of}
use Rattle.xfs_conversation.proofs.commands_complete_once.Goals as goal

pub returns : goal.returns
returns c = λ texts frames pending h. once_of h
