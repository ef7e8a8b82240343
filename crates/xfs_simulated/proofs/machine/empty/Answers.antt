use Rattle.std.proofs.Common.{arith}
use Rattle.xfs_guard.proofs.StartLaws.{short-no_image}
use Rattle.xfs_simulated.proofs.machine.empty.Goals as goal

pub returns-clause-none : goal.returns-clause-none
returns-clause-none c = short-no_image _ (rw c.new-2.ensures.bytes (omega arith))
