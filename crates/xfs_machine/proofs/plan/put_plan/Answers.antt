use Rattle.std.proofs.Common.{Some}
use Rattle.xfs_traffic.proofs.ChangeLaws.{rejobbed}
use Rattle.xfs_machine.proofs.plan.put_plan.Goals as goal

pub returns : goal.returns
returns c = rw c.put_plan.ensures (rejobbed (λ j. record j { plan = Some c.args.plan }) c.args.ticket c.args.queue.now c.job.result.now c.job.ensures.now c.job.ensures.valid)
