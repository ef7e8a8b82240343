use Rattle.xfs_conversation.proofs.Fronts.{posted_of}
use Rattle.xfs_conversation.proofs.pending_commands_were_posted.Goals as goal

pub returns : goal.returns
returns c = λ texts frames pending h. posted_of h
