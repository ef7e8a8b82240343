use Rattle.xfs_model.proofs.Sounds.{sound_bare}
use Rattle.xfs_model.proofs.bare_machines_are_sound.Goals as goal

pub returns : goal.returns
returns c = λ seen life boot none. sound_bare seen life boot (λ up. none)
