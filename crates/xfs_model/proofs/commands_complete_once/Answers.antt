use Rattle.xfs_model.proofs.Runs.{once, runs}
use Rattle.xfs_model.proofs.commands_complete_once.Goals as goal

pub returns : goal.returns
returns c = λ mine now texts frames is k found. once now mine texts frames k found (runs is.seen is.life is.boot mine is.run).talk
