use Rattle.xfs_queue.proofs.Places.{pending_from_waiting}
use Rattle.xfs_callers.proofs.next.take_next.Goals as goal

pub remove-requires : goal.remove-requires
remove-requires g c = pending_from_waiting c.in_ok-ticket.ticket c.args.queue.now c.in_ok-ticket.ensures.waiting
