use Rattle.xfs_model.proofs.Runs.{runs}
use Rattle.xfs_model.proofs.runs_are_conversations.Goals as goal

pub returns : goal.returns
returns c = λ mine now texts frames is. (runs is.seen is.life is.boot mine is.run).talk
