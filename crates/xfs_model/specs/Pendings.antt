-- The pending commands of a client, as the client knows them.
use Rattle.std.specs.Prelude.{List, filter_map, Option, Some, None, if◌then◌else◌}
use Rattle.xfs_base.specs.declared.moment.ClientId.{ClientId}
use Rattle.xfs_conversation.specs.Pending.{Pending}
use Rattle.xfs_queue.specs.declared.command.Command.{Command}
use Rattle.xfs_queue.specs.Commands.{is_of}
use Rattle.xfs_model.specs.State.{Connection, Job, State, queue_at}

abbrev pub job_pending : Command Job → Pending
job_pending a = record { id = a.id; name = a.job.name }

abbrev pub known_to : ClientId → Command Job → Option Pending
known_to client a = if is_of client a then Some (job_pending a) else None

abbrev pub pending_in : ClientId → List (Command Job) → List Pending
pending_in client q = filter_map (known_to client) q

-- the pending commands of a connection, as its client knows them
abbrev pub pending_at : State → Connection → List Pending
pending_at s k = pending_in k.client (queue_at s k.service)
