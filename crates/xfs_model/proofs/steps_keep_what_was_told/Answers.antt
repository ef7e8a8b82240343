use Rattle.xfs_model.proofs.Telling.{bare_told, handed_tell, told_kept}
use Rattle.xfs_model.proofs.steps_keep_what_was_told.Goals as goal

pub returns-clause-kept : goal.returns-clause-kept
returns-clause-kept c = λ old new event answer sound is mark told. told_kept old new event answer sound.machine sound.asks mark is told

pub returns-clause-handed : goal.returns-clause-handed
returns-clause-handed c = λ old new pass frames is told. handed_tell old new pass frames is told

pub returns-clause-bare : goal.returns-clause-bare
returns-clause-bare c = λ seen life boot. bare_told seen life boot
