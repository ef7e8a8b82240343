use Rattle.xfs_host.proofs.OneText.{same_text}
use Rattle.xfs_host.proofs.Sound.{sound}
use Rattle.xfs_host.proofs.laws.every_history.Goals as goal

pub returns-clause-sound : goal.returns-clause-sound
returns-clause-sound c = sound

pub returns-clause-same : goal.returns-clause-same
returns-clause-same c = same_text
