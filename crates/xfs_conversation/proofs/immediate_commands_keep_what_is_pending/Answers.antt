use Rattle.xfs_conversation.proofs.Immediate.{completed_at_once}
use Rattle.xfs_conversation.proofs.immediate_commands_keep_what_is_pending.Goals as goal

pub returns : goal.returns
returns c = λ texts frames pending h text first second is. completed_at_once texts frames pending text first second h is
