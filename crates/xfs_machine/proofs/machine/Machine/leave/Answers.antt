use Rattle.std.proofs.Common.{refl, sym, ◌∙◌}
use Rattle.xfs_machine.proofs.Calls.{leaves, seated, whole_kept}
use Rattle.xfs_machine.proofs.Laws.{lawful}
use Rattle.xfs_machine.proofs.machine.Machine.leave.Goals as goal
use Rattle.xfs_model.specs.Events.{done, leave}
use Rattle.xfs_model.specs.State.{Pass}

pub invariant_of-self : goal.invariant_of-self
invariant_of-self g c =
    let pass : Pass = record { client = c.pass.inside.client; service = c.pass.inside.service; boot = c.pass.inside.boot } in
    let at = rw (sym c.self.view_is, sym c.pass.view_is) at (sym c.in-Some.is ∙ c.service_of.ensures) in
    whole_kept _ _ (leave pass) done c.self.invariant
    (leaves _ pass c.in-Some.service c.remove.new.self c.drop_client.new.self c.self.invariant (seated _ pass c.in-Some.service at) c.remove.ensures c.drop_client.ensures) c.self.invariant.moment refl

pub returns-clause-step : goal.returns-clause-step
returns-clause-step g c =
    let pass : Pass = record { client = c.pass.inside.client; service = c.pass.inside.service; boot = c.pass.inside.boot } in
    let at = rw (sym c.self.view_is, sym c.pass.view_is) at (sym c.in-Some.is ∙ c.service_of.ensures) in
    rw (← c.self.view_is, ← c.pass.view_is)
    (leaves _ pass c.in-Some.service c.remove.new.self c.drop_client.new.self c.self.invariant (seated _ pass c.in-Some.service at) c.remove.ensures c.drop_client.ensures)

pub returns-clause-laws : goal.returns-clause-laws
returns-clause-laws g c =
    let pass : Pass = record { client = c.pass.inside.client; service = c.pass.inside.service; boot = c.pass.inside.boot } in
    let at = rw (sym c.self.view_is, sym c.pass.view_is) at (sym c.in-Some.is ∙ c.service_of.ensures) in
    rw (← c.self.view_is, ← c.pass.view_is)
    (lawful _ _ (leave pass) done c.self.invariant
    (leaves _ pass c.in-Some.service c.remove.new.self c.drop_client.new.self c.self.invariant (seated _ pass c.in-Some.service at) c.remove.ensures c.drop_client.ensures))
