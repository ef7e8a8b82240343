use Rattle.std.proofs.Common.{ap, refl, ◌∙◌}
use Rattle.serde_json.specs.View.{view}
use Rattle.xfs_model.specs.Results.{outcome, with_result}
use Rattle.xfs_machine.specs.Parts.{with_plan_kept}
use Rattle.xfs_traffic.proofs.ChangeLaws.{twice}
use Rattle.xfs_machine.proofs.plan.step_on.Goals as goal

pub returns-in-Result : goal.returns-in-Result
returns-in-Result c =
    rw (c.in-Result.is)
    ((rw (c.new.ensures, c.go_on-in-Result.ensures.goes_on, c.at_mut-in-Result.ensures.now) at c.set_result.ensures)
    ∙ ap (λ q. record c.args.queues.now { cash = q }) (twice (with_plan_kept c.args.plan c.args.ended) (with_result (outcome c.in-Result.code (view c.in-Result.payload))) (λ b. refl) c.args.ticket c.args.queues.now.cash))
