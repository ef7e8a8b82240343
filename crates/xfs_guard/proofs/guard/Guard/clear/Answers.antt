use Rattle.std.proofs.Common.{rules}
use Rattle.xfs_guard.proofs.KeepsLaws.{Keeps-same, writes-keeping}
use Rattle.xfs_guard.proofs.guard.Guard.clear.Goals as goal

pub returns-in-Some-clause-writes : goal.returns-in-Some-clause-writes
returns-in-Some-clause-writes g c = writes-keeping (Keeps-same g.D.Disk _ g.met.D.Disk.only_now c.unfit.ensures.upheld) (λ keeps. search rules)

pub returns-then-is_none-clause-writes : goal.returns-then-is_none-clause-writes
returns-then-is_none-clause-writes g c = writes-keeping (Keeps-same g.D.Disk _ g.met.D.Disk.only_now c.unfit.ensures.upheld) (λ keeps. search rules)
