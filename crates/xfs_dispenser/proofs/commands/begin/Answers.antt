use Rattle.std.proofs.Common.{refl, rules}
use Rattle.std.proofs.lemmas.Result.{IfOk-weaker}
use Rattle.xfs_dispenser.specs.Answers.{start_of}
use Rattle.xfs_dispenser.specs.Begins.{IsDispensed, IsStorageSet}
use Rattle.xfs_dispenser.specs.Seen.{seen}
use Rattle.xfs_dispenser.specs.declared.ask.CashAsk.TheVariants as CashAsk
use Rattle.xfs_guard.proofs.KeepsLaws.{Keeps-same, Proceeds-same}
use Rattle.xfs_dispenser.proofs.BeginLaws.{dispense-planned, storage-planned}
use Rattle.xfs_dispenser.proofs.CommandLaws.{at-plan}
use Rattle.xfs_dispenser.proofs.SendLaws.{begins-sent, unless-start}
use Rattle.xfs_dispenser.proofs.commands.begin.Goals as goal

pub returns-in-Denominate-clause-leaves : goal.returns-in-Denominate-clause-leaves
returns-in-Denominate-clause-leaves g c = record { proceeds = Proceeds-same g.D.Disk _ g.met.D.Disk.only_now; none = search rules }

pub returns-in-Denominate-clause-keeps : goal.returns-in-Denominate-clause-keeps
returns-in-Denominate-clause-keeps g c = λ upheld. Keeps-same g.D.Disk _ g.met.D.Disk.only_now upheld

pub returns-in-Present-clause-leaves : goal.returns-in-Present-clause-leaves
returns-in-Present-clause-leaves g c = record { proceeds = Proceeds-same g.D.Disk _ g.met.D.Disk.only_now; none = search rules }

pub returns-in-Present-clause-keeps : goal.returns-in-Present-clause-keeps
returns-in-Present-clause-keeps g c = λ upheld. Keeps-same g.D.Disk _ g.met.D.Disk.only_now upheld

pub returns-in-Reject-clause-leaves : goal.returns-in-Reject-clause-leaves
returns-in-Reject-clause-leaves g c = record { proceeds = Proceeds-same g.D.Disk _ g.met.D.Disk.only_now; none = search rules }

pub returns-in-Reject-clause-keeps : goal.returns-in-Reject-clause-keeps
returns-in-Reject-clause-keeps g c = λ upheld. Keeps-same g.D.Disk _ g.met.D.Disk.only_now upheld

pub returns-in-Retract-clause-leaves : goal.returns-in-Retract-clause-leaves
returns-in-Retract-clause-leaves g c = record { proceeds = Proceeds-same g.D.Disk _ g.met.D.Disk.only_now; none = search rules }

pub returns-in-Retract-clause-keeps : goal.returns-in-Retract-clause-keeps
returns-in-Retract-clause-keeps g c = λ upheld. Keeps-same g.D.Disk _ g.met.D.Disk.only_now upheld

pub returns-in-Reset-clause-leaves : goal.returns-in-Reset-clause-leaves
returns-in-Reset-clause-leaves g c = record { proceeds = Proceeds-same g.D.Disk _ g.met.D.Disk.only_now; none = search rules }

pub returns-in-Reset-clause-keeps : goal.returns-in-Reset-clause-keeps
returns-in-Reset-clause-keeps g c = λ upheld. Keeps-same g.D.Disk _ g.met.D.Disk.only_now upheld

pub returns-in-SetStorage-clause-leaves : goal.returns-in-SetStorage-clause-leaves
returns-in-SetStorage-clause-leaves g c = record { proceeds = Proceeds-same g.D.Disk _ g.met.D.Disk.only_now; none = search rules }

pub returns-in-SetStorage-clause-keeps : goal.returns-in-SetStorage-clause-keeps
returns-in-SetStorage-clause-keeps g c = λ upheld. Keeps-same g.D.Disk _ g.met.D.Disk.only_now upheld

pub returns-in-StartExchange-clause-leaves : goal.returns-in-StartExchange-clause-leaves
returns-in-StartExchange-clause-leaves g c = record { proceeds = Proceeds-same g.D.Disk _ g.met.D.Disk.only_now; none = search rules }

pub returns-in-StartExchange-clause-keeps : goal.returns-in-StartExchange-clause-keeps
returns-in-StartExchange-clause-keeps g c = λ upheld. Keeps-same g.D.Disk _ g.met.D.Disk.only_now upheld

pub returns-in-EndExchange-clause-leaves : goal.returns-in-EndExchange-clause-leaves
returns-in-EndExchange-clause-leaves g c = record { proceeds = Proceeds-same g.D.Disk _ g.met.D.Disk.only_now; none = search rules }

pub returns-in-EndExchange-clause-keeps : goal.returns-in-EndExchange-clause-keeps
returns-in-EndExchange-clause-keeps g c = λ upheld. Keeps-same g.D.Disk _ g.met.D.Disk.only_now upheld

pub returns-in-Dispense-clause-planned : goal.returns-in-Dispense-clause-planned
returns-in-Dispense-clause-planned g c = λ plan is.
    let s = seen g.D.Disk c.args.guard.now in
    let next = seen g.D.Disk c.dispense.new.guard in
    let notes = c.in-Dispense.notes in
    let token = c.in-Dispense.token in
    dispense-planned s c.args.exchange.now notes token next plan c.requires (at-plan (λ start. IsDispensed s c.args.exchange.now notes token next start) c.dispense.result plan c.dispense.ensures.dispensed is)

pub returns-in-SetStorage-clause-planned : goal.returns-in-SetStorage-clause-planned
returns-in-SetStorage-clause-planned g c = λ plan is.
    let v = c.args.guard.now.state in
    let added = c.in-SetStorage.added in
    storage-planned v c.args.exchange.now added plan c.requires (at-plan (λ start. IsStorageSet v c.args.exchange.now added start) c.set_storage.result plan c.set_storage.ensures is)

pub returns-in-Denominate-clause-payload : goal.returns-in-Denominate-clause-payload
returns-in-Denominate-clause-payload g c =
    let s = seen g.D.Disk c.args.guard.now in
    IfOk-weaker c.denominate.result _ _ (λ b is. begins-sent s c.args.exchange.now (CashAsk.Denominate c.in-Denominate.notes) s c.args.exchange.now (start_of b) (refl, refl, is)) c.denominate.ensures

pub returns-in-Dispense-clause-payload : goal.returns-in-Dispense-clause-payload
returns-in-Dispense-clause-payload g c =
    let s = seen g.D.Disk c.args.guard.now in
    IfOk-weaker c.dispense.result _ _ (λ b is. begins-sent s c.args.exchange.now (CashAsk.Dispense c.in-Dispense.notes c.in-Dispense.token) (seen g.D.Disk c.dispense.new.guard) c.args.exchange.now (start_of b) (refl, is)) c.dispense.ensures.dispensed

pub returns-in-Present-clause-payload : goal.returns-in-Present-clause-payload
returns-in-Present-clause-payload g c =
    let s = seen g.D.Disk c.args.guard.now in
    IfOk-weaker c.begin_order.result _ _ (λ b is. begins-sent s c.args.exchange.now CashAsk.Present s c.args.exchange.now (start_of b) (refl, refl, is)) c.begin_order.ensures

pub returns-in-Reject-clause-payload : goal.returns-in-Reject-clause-payload
returns-in-Reject-clause-payload g c =
    let s = seen g.D.Disk c.args.guard.now in
    IfOk-weaker c.begin_order-in-Reject.result _ _ (λ b is. begins-sent s c.args.exchange.now CashAsk.Reject s c.args.exchange.now (start_of b) (refl, refl, is)) c.begin_order-in-Reject.ensures

pub returns-in-Retract-clause-payload : goal.returns-in-Retract-clause-payload
returns-in-Retract-clause-payload g c =
    let s = seen g.D.Disk c.args.guard.now in
    IfOk-weaker c.begin_order-in-Retract.result _ _ (λ b is. begins-sent s c.args.exchange.now CashAsk.Retract s c.args.exchange.now (start_of b) (refl, refl, is)) c.begin_order-in-Retract.ensures

pub returns-in-Reset-clause-payload : goal.returns-in-Reset-clause-payload
returns-in-Reset-clause-payload g c =
    IfOk-weaker c.begin_unless.result _ _ (λ b is. unless-start c.active_refusal.result _ (start_of b) tt is) c.begin_unless.ensures

pub returns-in-SetStorage-clause-payload : goal.returns-in-SetStorage-clause-payload
returns-in-SetStorage-clause-payload g c =
    let s = seen g.D.Disk c.args.guard.now in
    IfOk-weaker c.set_storage.result _ _ (λ b is. begins-sent s c.args.exchange.now (CashAsk.SetStorage c.in-SetStorage.added) s c.args.exchange.now (start_of b) (refl, refl, is)) c.set_storage.ensures

pub returns-in-StartExchange-clause-payload : goal.returns-in-StartExchange-clause-payload
returns-in-StartExchange-clause-payload g c =
    let s = seen g.D.Disk c.args.guard.now in
    IfOk-weaker c.start_exchange.result _ _ (λ b is. begins-sent s c.args.exchange.now CashAsk.StartExchange s c.start_exchange.new.exchange (start_of b) (refl, is)) c.start_exchange.ensures.starts

pub returns-in-EndExchange-clause-payload : goal.returns-in-EndExchange-clause-payload
returns-in-EndExchange-clause-payload g c =
    let s = seen g.D.Disk c.args.guard.now in
    IfOk-weaker c.end_exchange.result _ _ (λ b is. begins-sent s c.args.exchange.now CashAsk.EndExchange s c.end_exchange.new.exchange (start_of b) (refl, is)) c.end_exchange.ensures.starts
