use Rattle.xfs_dispenser.proofs.StepLaws.{KeepsStep-err, KeepsStep-same}
use Rattle.xfs_dispenser.proofs.steps.load.Goals as goal

pub returns-in_err-progress-clause-guard : goal.returns-in_err-progress-clause-guard
returns-in_err-progress-clause-guard g c = KeepsStep-same g.D.Disk _ _ c.from_residual.result _ c.from_residual.ensures.1 g.met.D.Disk.only_now

pub returns-in_err-outcome-clause-guard : goal.returns-in_err-outcome-clause-guard
returns-in_err-outcome-clause-guard g c = KeepsStep-err g.D.Disk _ _ _ c.from_residual-in_err-outcome.result _ _ c.from_residual-in_err-outcome.ensures.1 c.in_err-outcome.ensures.uses.keeps
