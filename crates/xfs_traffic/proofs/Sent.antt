-- Pending commands may go to another thread. Their results are JSON values: since the types of these hold themselves, Rattle finds no such proof of a type that they are part of, and it stands here.
use denote.Param.Send.{IsSend, struct_send, recorded_send, view_send, sendable}
use denote.Struct.Declared.{shape}
use Rattle.serde_json.proofs.value.Value.TheLaws.TheKnot as knot
use Rattle.serde_json.specs.contracts.value.Value as value
use Rattle.std.proofs.Crossing as owned
use Rattle.std.proofs.MapsCrossing as maps
use Rattle.xfs_envelope.proofs.code.Code.TheSendSync as code
use Rattle.xfs_envelope.proofs.name.Name.TheSendSync as name
use Rattle.xfs_traffic.proofs.job.Ending.TheSendSync as ending
use Rattle.xfs_traffic.proofs.connections.Connections.TheSendSync as connections
use Rattle.xfs_traffic.proofs.running_plan.RunningPlan.TheSendSync as plan
use Rattle.xfs_traffic.specs.contracts.job.Job as job
use Rattle.xfs_traffic.specs.contracts.job.Outcome as outcome
use Rattle.xfs_traffic.specs.contracts.job.Outcome.TheInside as in_outcome
use Rattle.xfs_traffic.specs.contracts.queues.Queues as queues
use Rattle.xfs_traffic.specs.contracts.queues.Queues.TheInside as in_queues
use Rattle.xfs_traffic.specs.contracts.traffic.Traffic as traffic
use Rattle.xfs_queue.proofs.queue.Queue.TheSendSync as of_queue
use Rattle.xfs_queue.specs.contracts.queue.Queue as queue

value_send : IsSend (value.the_field).row
value_send = search (maps.crosses, owned.crosses, knot.crosses, sendable) depth 60 fits 20000

outcome_send : IsSend outcome.the_row
outcome_send =
    let fields = in_outcome.the_type in
    view_send in_outcome.the_row _ _ _ _
    (recorded_send (in_outcome.the_field).row _ _ fields.to_one
    (struct_send (shape fields) (code.the_field_send, (value_send, (search (ending.the_field_send, owned.crosses, sendable) depth 60 fits 20000, tt)))))

job_send : IsSend job.the_row
job_send = search (name.the_send, plan.the_send, outcome_send, maps.crosses, owned.crosses, sendable) depth 60 fits 20000

queue_send : IsSend (queue.the_row job.the_row)
queue_send = of_queue.the_send job.the_row job_send

queues_send : IsSend queues.the_row
queues_send =
    let fields = in_queues.the_type in
    view_send in_queues.the_row _ _ _ _
    (recorded_send (in_queues.the_field).row _ _ fields.to_one
    (struct_send (shape fields) (queue_send, (queue_send, (queue_send, (queue_send, tt))))))

pub traffic_send : IsSend (traffic.the_field).row
traffic_send = struct_send (shape traffic.the_type) (connections.the_send, (queues_send, tt))
