use Rattle.std.proofs.Common.{arith}
use Rattle.xfs_journal.proofs.BaseLaws.{base_of-le}
use Rattle.xfs_guard.proofs.ledger.Ledger.base.Goals as goal

pub returns-clause-within : goal.returns-clause-within
returns-clause-within g c = rw (← c.self.view_is) (omega (arith, base_of-le c.self.inside.journal.records, c.base.ensures.led))
