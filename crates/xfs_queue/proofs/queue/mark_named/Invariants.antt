use Rattle.std.proofs.Common.{◌≡◌, ◌&&◌, ◌++◌, not, map, take, drop}
use Rattle.xfs_queue.specs.Commands.{is_ready}
use Rattle.xfs_queue.specs.Queue.{is_named, mark}
use Rattle.xfs_queue.proofs.queue.mark_named.Given as goal

abbrev pub invariant-loop-command : goal.invariant-loop-command
invariant-loop-command g l =
    l.commands ≡ map (λ a. mark (is_named l.client l.ids a && not (is_ready a.stage)) a) (take l.command-index l.initial.commands) ++ drop l.command-index l.initial.commands
