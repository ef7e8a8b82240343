use Rattle.xfs_queue.specs.Commands.{is_waiting}
use Rattle.xfs_model.specs.State.{queue_of}
use Rattle.xfs_traffic.proofs.ChangeLaws.{waits_there}
use Rattle.xfs_machine.proofs.begin.start_cash.Goals as goal

pub set_result-requires : goal.set_result-requires
set_result-requires c = waits_there (λ b. is_waiting b.stage) c.args.ticket (queue_of c.args.queues.now c.args.service) c.requires.next.waiting
