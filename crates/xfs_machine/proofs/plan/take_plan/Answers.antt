use Rattle.std.proofs.Common.{None, ◌∙◌, refl}
use Rattle.xfs_machine.specs.Parts.{with_job_plan}
use Rattle.xfs_traffic.proofs.ChangeLaws.{had_plan, pending_changed, rejobbed}
use Rattle.xfs_machine.proofs.plan.take_plan.Goals as goal

pub returns-clause-had : goal.returns-clause-had
returns-clause-had c = rw c.take_plan.ensures.had (had_plan _ c.job.result.now c.job.ensures.now)

pub returns-clause-left : goal.returns-clause-left
returns-clause-left c = rw c.take_plan.ensures.left (rejobbed (λ j. record j { plan = None }) c.args.ticket c.args.queue.now c.job.result.now c.job.ensures.now c.job.ensures.valid)

pub returns-clause-pending : goal.returns-clause-pending
returns-clause-pending c =
    rw (c.take_plan.ensures.left, rejobbed (λ j. record j { plan = None }) c.args.ticket c.args.queue.now c.job.result.now c.job.ensures.now c.job.ensures.valid)
    (pending_changed (with_job_plan None) (λ b. refl) c.args.ticket c.args.queue.now ∙ c.requires)
