use Rattle.std.proofs.Common.{arith}
use Rattle.xfs_queue.specs.Commands.{is_of}
use Rattle.xfs_queue.proofs.Places.{marked_more}
use Rattle.xfs_queue.proofs.queue.mark_client.Goals as goal

pub loop-command-preserved : goal.loop-command-preserved
loop-command-preserved g c =
    marked_more (λ a. is_of c.args.client a) c.args.commands.now c.loop-command.commands c.loop-command.command-index c.command-item.result c.is_of.result (omega arith) c.loop-command.invariant c.command-item.is c.is_of.ensures
