use Rattle.xfs_model.proofs.Faulting.{faults_have_causes}
use Rattle.xfs_model.proofs.faults_have_their_causes.Goals as goal

pub returns : goal.returns
returns c = λ old new event answer sound is. faults_have_causes old new event answer sound is
