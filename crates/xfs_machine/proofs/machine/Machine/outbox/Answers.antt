use Rattle.std.proofs.Common.{refl}
use Rattle.xfs_machine.proofs.Calls.{hands, whole_kept}
use Rattle.xfs_machine.proofs.Laws.{lawful}
use Rattle.xfs_model.proofs.Telling.{handed_tell}
use Rattle.xfs_machine.proofs.machine.Machine.outbox.Goals as goal
use Rattle.xfs_model.specs.Events.{handed, outbox}
use Rattle.xfs_model.specs.State.{Pass}

pub invariant_of-self : goal.invariant_of-self
invariant_of-self g c =
    let pass : Pass = record { client = c.pass.inside.client; service = c.pass.inside.service; boot = c.pass.inside.boot } in
    whole_kept _ _ (outbox pass) (handed c.fetch.result.items) c.self.invariant
    (hands _ pass c.fetch.result.items c.fetch.new.self c.self.invariant c.if-self-pass.false c.fetch.ensures.handed c.fetch.ensures.rest) c.self.invariant.moment refl

pub returns-clause-step : goal.returns-clause-step
returns-clause-step g c =
    let pass : Pass = record { client = c.pass.inside.client; service = c.pass.inside.service; boot = c.pass.inside.boot } in
    rw (← c.self.view_is, ← c.pass.view_is, c.new-2.ensures)
    (hands _ pass c.fetch.result.items c.fetch.new.self c.self.invariant c.if-self-pass.false c.fetch.ensures.handed c.fetch.ensures.rest)

pub returns-clause-laws : goal.returns-clause-laws
returns-clause-laws g c =
    let pass : Pass = record { client = c.pass.inside.client; service = c.pass.inside.service; boot = c.pass.inside.boot } in
    rw (← c.self.view_is, ← c.pass.view_is, c.new-2.ensures)
    (lawful _ _ (outbox pass) (handed c.fetch.result.items) c.self.invariant (hands _ pass c.fetch.result.items c.fetch.new.self c.self.invariant c.if-self-pass.false c.fetch.ensures.handed c.fetch.ensures.rest))

pub returns-clause-told : goal.returns-clause-told
returns-clause-told g c =
    let pass : Pass = record { client = c.pass.inside.client; service = c.pass.inside.service; boot = c.pass.inside.boot } in
    rw (c.new-2.ensures)
    (handed_tell _ _ pass c.fetch.result.items (hands _ pass c.fetch.result.items c.fetch.new.self c.self.invariant c.if-self-pass.false c.fetch.ensures.handed c.fetch.ensures.rest) c.self.invariant.told)
