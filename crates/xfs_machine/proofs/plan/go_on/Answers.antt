use Rattle.std.proofs.Common.{◌||◌, Some, ◌∙◌, refl}
use Rattle.xfs_machine.specs.Parts.{with_plan_kept}
use Rattle.xfs_traffic.proofs.ChangeLaws.{pending_changed, rejobbed}
use Rattle.xfs_machine.proofs.plan.go_on.Goals as goal

pub returns-clause-goes_on : goal.returns-clause-goes_on
returns-clause-goes_on c =
    rw c.step_to.ensures (rejobbed (λ j. record j { plan = Some c.args.plan; ended_nonce = j.ended_nonce || c.args.ended }) c.args.ticket c.args.queue.now c.job.result.now c.job.ensures.now c.job.ensures.valid)

pub returns-clause-pending : goal.returns-clause-pending
returns-clause-pending c =
    rw (c.step_to.ensures, rejobbed (λ j. record j { plan = Some c.args.plan; ended_nonce = j.ended_nonce || c.args.ended }) c.args.ticket c.args.queue.now c.job.result.now c.job.ensures.now c.job.ensures.valid)
    (pending_changed (with_plan_kept c.args.plan c.args.ended) (λ b. refl) c.args.ticket c.args.queue.now ∙ c.requires)
