use Rattle.std.proofs.Common.{rules}
use Rattle.xfs_simulated.proofs.ResumedLaws.{tells-as}
use Rattle.xfs_simulated.proofs.resume.resume_core.Goals as goal

pub returns-clause-resumed : goal.returns-clause-resumed
returns-clause-resumed g c = tells-as _ _ _ _ _ _ _ _ (search rules) (search rules) (search rules) c.in_ok-disk.ensures
