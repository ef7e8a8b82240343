use Rattle.std.proofs.Common.{refl}
use Rattle.xfs_guard.proofs.UpheldLaws.{upheld}
use Rattle.xfs_guard.proofs.guard.Guard.fit.Goals as goal

pub returns-clause-upheld : goal.returns-clause-upheld
returns-clause-upheld g c = rw (← c.self.view_is) (upheld g.D.Disk _ _ _ _ _ refl c.self.invariant.0 c.shut.ensures.possible c.self.invariant.1)

pub returns-then-shut-clause-upheld : goal.returns-then-shut-clause-upheld
returns-then-shut-clause-upheld g c = rw (← c.self.view_is) (upheld g.D.Disk _ _ _ _ _ refl c.self.invariant.0 c.shut.ensures.possible c.self.invariant.1)

pub returns-then-boot_missing-clause-upheld : goal.returns-then-boot_missing-clause-upheld
returns-then-boot_missing-clause-upheld g c = rw (← c.self.view_is) (upheld g.D.Disk _ _ _ _ _ refl c.self.invariant.0 c.shut.ensures.possible c.self.invariant.1)
