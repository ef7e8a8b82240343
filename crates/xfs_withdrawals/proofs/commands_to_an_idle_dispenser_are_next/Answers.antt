use Rattle.xfs_withdrawals.proofs.Posting.{taken}
use Rattle.xfs_withdrawals.proofs.commands_to_an_idle_dispenser_are_next.Goals as goal

pub returns : goal.returns
returns c = λ ask s new idle posted. taken ask s new idle posted
