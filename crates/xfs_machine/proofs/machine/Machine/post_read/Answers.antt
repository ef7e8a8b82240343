use Rattle.std.proofs.Common.{refl, sym, ◌∙◌}
use Rattle.xfs_machine.proofs.Calls.{later_within, post_refused, posts, posts_none, seated, unseated, whole_kept}
use Rattle.xfs_machine.proofs.Laws.{lawful}
use Rattle.xfs_machine.proofs.machine.Machine.post_read.Goals as goal
use Rattle.xfs_machine.specs.Answers.{posted}
use Rattle.xfs_machine.specs.MachineView.{of_parts}
use Rattle.xfs_model.specs.Events.{done, post}
use Rattle.xfs_model.specs.State.{Pass}

pub invariant_of-self-2 : goal.invariant_of-self-2
invariant_of-self-2 g c =
    let pass : Pass = record { client = c.pass.inside.client; service = c.pass.inside.service; boot = c.pass.inside.boot } in
    let at = rw (sym c.self.view_is, sym c.pass.view_is) at (sym c.in-Some.is ∙ c.service_of.ensures) in
    whole_kept _ _ (post pass c.args.reading c.args.now) done c.self.invariant
    (posts _ pass c.args.reading c.args.now c.later-now.result c.in-Some.service c.take.new.traffic c.self.invariant (seated _ pass c.in-Some.service at) c.later-now.ensures c.in_ok-take.ensures.ok)
    (later_within c.self.inside.moment c.args.now c.later-now.result c.later-now.ensures c.self.invariant.moment c.requires) refl

pub returns-clause-step : goal.returns-clause-step
returns-clause-step g c =
    let pass : Pass = record { client = c.pass.inside.client; service = c.pass.inside.service; boot = c.pass.inside.boot } in
    let at = rw (sym c.self.view_is, sym c.pass.view_is) at (sym c.in-Some.is ∙ c.service_of.ensures) in
    rw (← c.self.view_is, ← c.pass.view_is)
    (posts _ pass c.args.reading c.args.now c.later-now.result c.in-Some.service c.take.new.traffic c.self.invariant (seated _ pass c.in-Some.service at) c.later-now.ensures c.in_ok-take.ensures.ok)

pub returns-clause-laws : goal.returns-clause-laws
returns-clause-laws g c =
    let pass : Pass = record { client = c.pass.inside.client; service = c.pass.inside.service; boot = c.pass.inside.boot } in
    let at = rw (sym c.self.view_is, sym c.pass.view_is) at (sym c.in-Some.is ∙ c.service_of.ensures) in
    rw (← c.self.view_is, ← c.pass.view_is)
    (lawful _ _ (post pass c.args.reading c.args.now) done c.self.invariant
    (posts _ pass c.args.reading c.args.now c.later-now.result c.in-Some.service c.take.new.traffic c.self.invariant (seated _ pass c.in-Some.service at) c.later-now.ensures c.in_ok-take.ensures.ok))

pub returns-in_default-clause-laws : goal.returns-in_default-clause-laws
returns-in_default-clause-laws g c =
    let m = c.self.inside in
    let before = of_parts g.D.Disk m.dispenser m.boot m.moment m.given m.devices m.traffic in
    let at = unseated before c.args.pass.now (rw (sym c.self.view_is) at (sym c.in_default.is ∙ c.service_of.ensures)) in
    rw (← c.self.view_is) (lawful before before (post c.args.pass.now c.args.reading c.args.now) done c.self.invariant (posts_none before c.args.pass.now c.args.reading c.args.now c.self.invariant at))

pub returns-in_err-take-clause-laws : goal.returns-in_err-take-clause-laws
returns-in_err-take-clause-laws g c =
    rw (← c.self.view_is, c.in_err-take.ensures.err)
    (lawful _ _ (post c.args.pass.now c.args.reading c.args.now) (posted c.from_residual.result) c.self.invariant (post_refused c.from_residual.result _ _ c.args.pass.now c.args.reading c.args.now c.from_residual.ensures.1))
