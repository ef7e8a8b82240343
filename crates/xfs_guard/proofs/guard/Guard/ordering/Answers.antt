use Rattle.std.proofs.Common.{refl}
use Rattle.xfs_guard.proofs.UpheldLaws.{upheld}
use Rattle.xfs_guard.proofs.guard.Guard.ordering.Goals as goal

pub returns-clause-upheld : goal.returns-clause-upheld
returns-clause-upheld g c = rw (← c.self.view_is) (upheld g.D.Disk _ _ _ _ _ refl c.self.invariant.0 c.shut-told.ensures.possible c.self.invariant.1)
