use Rattle.xfs_model.proofs.Machines.{kept}
use Rattle.xfs_model.proofs.steps_keep_the_machine.Goals as goal

pub returns : goal.returns
returns c = λ old new event answer h is. kept old new event answer h is
