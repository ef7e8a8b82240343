use Rattle.std.proofs.lemmas.Bool.{OnTrue_at, OnTrue_from, OnFalse_at, OnFalse_from}
use Rattle.std.proofs.lemmas.Result.{IfOk-weaker}
use Rattle.xfs_audit.specs.Paying.{Pays, IsUnpaid, Reads, Breaks}
use Rattle.xfs_audit.proofs.PayingLaws.{paid-entry, unpaid-entry, quiet-more}
use Rattle.xfs_audit.proofs.payer.Payer.read.Goals as goal

pub returns-in-Some-clause-paid : goal.returns-in-Some-clause-paid
returns-in-Some-clause-paid c = IfOk-weaker c.pay.result _ _ (λ paid h. OnTrue_from paid (Reads c.args.key.now c.args.units.now c.args.records.now c.args.entry.now c.args.self.now c.pay.new.self) (λ yes done asked paying.
    paid-entry c.args.key.now c.args.units.now c.args.records.now done c.args.entry.now c.in-Some.number c.in-Some.moved c.pay.new.self c.in-Some.ensures asked (λ counts diverted ordered. OnTrue_at {P = Pays c.args.key.now c.args.units.now c.args.records.now c.in-Some.number c.in-Some.moved c.args.self.now c.pay.new.self} yes h done counts diverted paying ordered))) c.pay.ensures.paid

pub returns-in-Some-clause-unpaid : goal.returns-in-Some-clause-unpaid
returns-in-Some-clause-unpaid c = IfOk-weaker c.pay.result _ _ (λ paid h. OnFalse_from paid (Breaks c.args.key.now c.args.units.now c.args.records.now c.args.entry.now c.args.self.now) (λ not_paid done rest paying.
    unpaid-entry c.args.key.now c.args.units.now c.args.records.now done rest c.args.entry.now c.in-Some.number c.in-Some.moved c.in-Some.ensures (λ diverted. OnFalse_at {P = IsUnpaid c.args.key.now c.args.units.now c.args.records.now c.in-Some.number c.in-Some.moved c.args.self.now} not_paid h done rest diverted paying))) c.pay.ensures.unpaid

pub returns-in-None-clause-paid : goal.returns-in-None-clause-paid
returns-in-None-clause-paid c = λ done asked paying. quiet-more c.args.key.now c.args.units.now c.args.records.now done c.args.entry.now c.args.self.now c.in-None.ensures paying
