use Rattle.xfs_model.proofs.Caused.{causes_kept}
use Rattle.xfs_model.proofs.results_have_their_causes.Goals as goal

pub returns : goal.returns
returns c = λ old new event answer machine is h. causes_kept old new event answer machine is h
