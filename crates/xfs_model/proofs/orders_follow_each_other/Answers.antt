use Rattle.xfs_model.proofs.Ordering.{orders_follow}
use Rattle.xfs_model.proofs.orders_follow_each_other.Goals as goal

pub returns : goal.returns
returns c = λ old new event answer plain is. orders_follow old new event answer plain is
