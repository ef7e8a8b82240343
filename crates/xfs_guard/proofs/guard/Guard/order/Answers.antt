use Rattle.std.proofs.Common.{rules}
use Rattle.xfs_guard.proofs.KeepsLaws.{Keeps-same, writes-keeping}
use Rattle.xfs_guard.proofs.guard.Guard.order.Goals as goal

pub write_order-requires-clause-admitted : goal.write_order-requires-clause-admitted
write_order-requires-clause-admitted g c =
    (c.args.ask, c.in_ok-kind.ensures.ok)

pub returns-clause-ok : goal.returns-clause-ok
returns-clause-ok g c = rw (c.in_ok-kind.ensures.ok.1, c.in_ok-kind.ensures.ok.2) at c.write_order.ensures.ok

pub returns-clause-writes : goal.returns-clause-writes
returns-clause-writes g c = rw (c.in_ok-kind.ensures.ok.1, c.in_ok-kind.ensures.ok.2) at c.write_order.ensures.writes

pub returns-in-Some-clause-writes : goal.returns-in-Some-clause-writes
returns-in-Some-clause-writes g c = writes-keeping (Keeps-same g.D.Disk _ g.met.D.Disk.only_now c.unfit.ensures.upheld) (λ keeps. search rules)

pub returns-in_err-kind-clause-writes : goal.returns-in_err-kind-clause-writes
returns-in_err-kind-clause-writes g c = writes-keeping (Keeps-same g.D.Disk _ g.met.D.Disk.only_now c.unfit.ensures.upheld) (λ keeps. search rules)
