use Rattle.std.proofs.Common.{◌≡◌, map}
use Rattle.xfs_traffic.proofs.Changed.{stops_left}
use Rattle.xfs_traffic.proofs.queues.stop.Given as goal
use Rattle.xfs_model.specs.Immediate as model

abbrev pub invariant-loop-ticket : goal.invariant-loop-ticket
invariant-loop-ticket l = map model.stop l.queue ≡ map model.stop l.initial.queue

abbrev pub decreases-loop-ticket : goal.decreases-loop-ticket
decreases-loop-ticket l = stops_left l.queue
