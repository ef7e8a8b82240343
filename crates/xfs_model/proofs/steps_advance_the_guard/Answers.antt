use Rattle.xfs_model.proofs.Advancing.{advances}
use Rattle.xfs_model.proofs.steps_advance_the_guard.Goals as goal

pub returns : goal.returns
returns c = λ old new event answer is. advances old new event answer is
