use Rattle.std.proofs.Common.{◌∙◌}
use Rattle.xfs_traffic.proofs.Changed.{pending_still, resulted}
use Rattle.xfs_traffic.proofs.queues.set_result.Goals as goal

pub finish-requires-2 : goal.finish-requires-2
finish-requires-2 c = pending_still c.args.ticket _ c.args.queue.now c.requires

pub returns : goal.returns
returns c = c.finish-2.ensures ∙ rw (c.finish.ensures) (resulted c.args.ticket c.job.result.now c.args.outcome c.args.queue.now c.job.ensures.valid.ids c.job.ensures.now)
