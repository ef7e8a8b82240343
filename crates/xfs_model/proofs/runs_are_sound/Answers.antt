use Rattle.xfs_model.proofs.RunsTell.{told_in_runs}
use Rattle.xfs_model.proofs.Sounds.{sound_runs}
use Rattle.xfs_model.proofs.runs_are_sound.Goals as goal

pub returns-clause-sound : goal.returns-clause-sound
returns-clause-sound c = λ mine now texts frames is firm. sound_runs is.seen is.life is.boot mine firm.none is.run

pub returns-clause-told : goal.returns-clause-told
returns-clause-told c = λ mine now texts frames is firm. told_in_runs is.seen is.life is.boot mine firm.none firm.mark is.run
