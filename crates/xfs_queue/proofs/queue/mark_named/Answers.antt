use Rattle.std.proofs.Common.{arith, ◌&&◌, not}
use Rattle.xfs_queue.specs.Commands.{is_ready}
use Rattle.xfs_queue.specs.Queue.{is_named}
use Rattle.xfs_queue.proofs.Places.{marked_more}
use Rattle.xfs_queue.proofs.queue.mark_named.Goals as goal

pub loop-command-preserved : goal.loop-command-preserved
loop-command-preserved g c =
    marked_more (λ a. is_named c.args.client c.args.ids.now a && not (is_ready a.stage)) c.args.commands.now c.loop-command.commands c.loop-command.command-index c.command-item.result (c.is_named.result && not c.is_ready.result) (omega arith) c.loop-command.invariant c.command-item.is (cc)
