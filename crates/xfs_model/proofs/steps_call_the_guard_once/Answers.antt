use Rattle.xfs_model.proofs.Calls.{one_call}
use Rattle.xfs_model.proofs.steps_call_the_guard_once.Goals as goal

pub returns : goal.returns
returns c = λ old new event answer plain is. one_call old new event answer plain is
