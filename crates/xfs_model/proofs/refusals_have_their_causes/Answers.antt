use Rattle.xfs_model.proofs.Refusing.{refusals_have_causes}
use Rattle.xfs_model.proofs.refusals_have_their_causes.Goals as goal

pub returns : goal.returns
returns c = λ old new event answer sound is. refusals_have_causes old new event answer sound is
