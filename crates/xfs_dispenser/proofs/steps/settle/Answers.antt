use Rattle.xfs_dispenser.proofs.StepLaws.{KeepsStep-same}
use Rattle.xfs_dispenser.proofs.steps.settle.Goals as goal

pub returns-in_err-progress-clause-guard : goal.returns-in_err-progress-clause-guard
returns-in_err-progress-clause-guard g c = KeepsStep-same g.D.Disk _ _ c.from_residual.result _ c.from_residual.ensures.1 g.met.D.Disk.only_now
