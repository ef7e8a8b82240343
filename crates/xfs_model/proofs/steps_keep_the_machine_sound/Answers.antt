use Rattle.xfs_model.proofs.Sounds.{sound_kept}
use Rattle.xfs_model.proofs.steps_keep_the_machine_sound.Goals as goal

pub returns : goal.returns
returns c = λ old new event answer sound is. sound_kept old new event answer sound is
