use Rattle.xfs_authorised.proofs.Asked.{within-asks}
use Rattle.xfs_authorised.proofs.machines_put_out_what_was_authorised.Goals as goal

pub returns : goal.returns
returns c = within-asks c.every_history.ensures.made
