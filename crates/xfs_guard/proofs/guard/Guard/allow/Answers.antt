use Rattle.std.proofs.Common.{sym, rules}
use Rattle.xfs_guard.proofs.KeepsLaws.{Keeps-still, writes-keeping}
use Rattle.xfs_guard.proofs.LedgerLaws.{nonce-open}
use Rattle.xfs_guard.proofs.OrderLaws.{live-number, told-live}
use Rattle.xfs_guard.proofs.SizeLaws.{fit-at}
use Rattle.xfs_guard.proofs.guard.Guard.allow.Goals as goal

pub over_budget-requires : goal.over_budget-requires
over_budget-requires g c =
    let fit = fit-at _ _ c.self.view_is c.requires.passes.fit in
    let live = live-number c.self.inside.ledger.records c.in-Some.nonce (nonce-open c.self.inside.ledger.boot_missing c.self.inside.ledger.records c.in-Some.nonce fit.2 (sym c.in-Some.ensures)) in
    record { tells = record { open_still = (fit.0, fit.2); told = told-live _ live.0 (c.self.invariant.0.sound fit.0 fit.2) live.1 } }

pub returns-in-Some-over_budget-clause-writes : goal.returns-in-Some-over_budget-clause-writes
returns-in-Some-over_budget-clause-writes g c = writes-keeping (rw (← c.self.view_is) (Keeps-still g.D.Disk _ g.met.D.Disk.only_now c.self.invariant.1 c.self.invariant.0.recorded)) (λ keeps. search rules)
