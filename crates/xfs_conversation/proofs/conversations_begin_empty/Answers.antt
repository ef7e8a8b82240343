use Rattle.xfs_conversation.specs.Conversation.{joined}
use Rattle.xfs_conversation.proofs.conversations_begin_empty.Goals as goal

pub returns : goal.returns
returns c = joined
