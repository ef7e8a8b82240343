use Rattle.std.proofs.lemmas.Bool.{OnTrue_at, OnTrue_from, OnFalse_at, OnFalse_from}
use Rattle.xfs_audit.specs.Paying.{Pays, IsUnpaid}
use Rattle.xfs_audit.proofs.Choices.{none-from}
use Rattle.xfs_audit.proofs.PayingLaws.{unpaid-dead, unpaid-unclaimed, unpaid-there, spent-there}
use Rattle.xfs_audit.proofs.payer.Payer.pay.Goals as goal

pub returns-in_default-clause-unpaid : goal.returns-in_default-clause-unpaid
returns-in_default-clause-unpaid c = λ done rest diverted paying within. unpaid-dead c.args.key.now c.args.units.now c.args.records.now done rest c.turn.new.self.read c.args.number c.args.moved.now diverted c.turn.ensures.payer.read c.turn.ensures.count (none-from _ c.in_default.not-Some) within

pub returns-then-not-branch-clause-unpaid : goal.returns-then-not-branch-clause-unpaid
returns-then-not-branch-clause-unpaid c = λ done rest diverted paying within. unpaid-unclaimed c.args.key.now c.args.units.now c.args.records.now done rest c.turn.new.self.read c.args.number c.in-Some.issue c.args.moved.now diverted c.turn.ensures.payer.read c.turn.ensures.count c.in-Some.is (OnFalse_at c.if-not-branch.true c.in_ok-open.ensures.none) within

pub returns-clause-paid : goal.returns-clause-paid
returns-clause-paid c = OnTrue_from c.spend.result (Pays c.args.key.now c.args.units.now c.args.records.now c.args.number c.args.moved.now c.args.self.now c.spend.new.self) (λ yes done counts diverted paying ordered.
    let opened = OnTrue_at c.if-not-branch.false c.in_ok-open.ensures.same c.args.units.now done (c.turn.ensures.same c.args.key.now c.args.units.now done paying) in
    spent-there c.args.key.now c.args.units.now c.args.records.now done c.open.new.self c.spend.new.self.read c.spend.new.self.claim c.args.number counts c.args.moved.now diverted opened c.spend.ensures.read
    (let read = c.open.ensures.read in rw read c.turn.ensures.count) ordered (rw yes at c.spend.ensures.spent))

pub returns-clause-unpaid : goal.returns-clause-unpaid
returns-clause-unpaid c = OnFalse_from c.spend.result (IsUnpaid c.args.key.now c.args.units.now c.args.records.now c.args.number c.args.moved.now c.args.self.now) (λ not_paid done rest diverted paying within.
    let opened = OnTrue_at c.if-not-branch.false c.in_ok-open.ensures.same c.args.units.now done (c.turn.ensures.same c.args.key.now c.args.units.now done paying) in
    unpaid-there c.args.key.now c.args.units.now c.args.records.now done rest c.open.new.self c.spend.new.self.claim c.args.number c.args.moved.now diverted opened
    (let read = c.open.ensures.read in rw read c.turn.ensures.count) (rw not_paid at c.spend.ensures.spent) within)
