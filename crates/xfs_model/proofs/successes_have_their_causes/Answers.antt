use Rattle.xfs_model.proofs.Succeeding.{successes_have_causes}
use Rattle.xfs_model.proofs.successes_have_their_causes.Goals as goal

pub returns : goal.returns
returns c = λ old new event answer sound is. successes_have_causes old new event answer sound is
