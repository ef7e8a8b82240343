use Rattle.std.proofs.Common.{◌≡◌, ◌++◌, map, take, drop}
use Rattle.xfs_queue.specs.Commands.{is_of}
use Rattle.xfs_queue.specs.Queue.{mark}
use Rattle.xfs_queue.proofs.queue.mark_client.Given as goal

abbrev pub invariant-loop-command : goal.invariant-loop-command
invariant-loop-command g l =
    l.commands ≡ map (λ a. mark (is_of l.client a) a) (take l.command-index l.initial.commands) ++ drop l.command-index l.initial.commands
