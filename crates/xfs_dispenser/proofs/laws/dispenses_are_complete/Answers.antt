use Rattle.xfs_dispenser.proofs.CompleteLaws.{complete}
use Rattle.xfs_dispenser.proofs.laws.dispenses_are_complete.Goals as goal

pub returns : goal.returns
returns c = complete
