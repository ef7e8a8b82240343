-- Why a command has its result, and why it is marked.
use Rattle.std.specs.Prelude.{◌≡◌, ◌&&◌, ℕ, Bool, true, List, All, Option, Some, is_some, Ok}
use Rattle.std.specs.List.{list_any}
use Rattle.xfs_base.specs.declared.moment.ClientId.{ClientId}
use Rattle.xfs_base.specs.declared.moment.Moment.{Moment}
use Rattle.xfs_base.specs.declared.moment.Service.{Service}
use Rattle.xfs_common.specs.Cancel.{request_ids}
use Rattle.xfs_common.specs.Commands.{immediate_of}
use Rattle.xfs_common.specs.declared.command.Immediate.TheVariants.{Cancel}
use Rattle.xfs_envelope.specs.Commands.{command_in}
use Rattle.xfs_envelope.specs.Commands as envelope
use Rattle.xfs_envelope.specs.declared.code.Code.TheVariants.{Canceled, TimeOut}
use Rattle.xfs_queue.specs.declared.command.Command.{Command}
use Rattle.xfs_queue.specs.declared.command.Ticket.{Ticket}
use Rattle.xfs_queue.specs.Commands.{is_at, is_due, is_ready, names, ticket_of}
use Rattle.xfs_model.specs.Events.{Event, leave, post}
use Rattle.xfs_model.specs.Immediate.{ids_of}
use Rattle.xfs_model.specs.Connections.{connection_of}
use Rattle.xfs_model.specs.State.{Connection, Job, Outcome, Pass, State, queue_at}

-- one that is ready has its result; one that was canceled is marked, and one that timed out has a timeout, and its deadline has come
pub record IsCaused (now : Moment) (a : Command Job) : Type 0 where
  pub ready : is_ready a.stage ≡ true → is_some a.job.outcome ≡ true
  pub canceled : (result : Outcome) → a.job.outcome ≡ Some result → result.code ≡ Canceled → a.marked ≡ true
  pub late : (result : Outcome) → a.job.outcome ≡ Some result → result.code ≡ TimeOut → is_due now a ≡ true

abbrev pub HasCauses : State → Type 0
HasCauses s = (service : Service) → All (IsCaused s.now) (queue_at s service)

-- a text is a Cancel at the service that names this request id
pub record IsCancelOf (service : Service) (text : List ℕ) (id : ℕ) : Type 0 where
  pub command : envelope.Command
  pub ids : Option (List ℕ)
  pub reads : command_in text ≡ Ok command
  pub name : immediate_of service command.name ≡ Some Cancel
  pub asks : request_ids command.payload ≡ Ok ids
  pub names_it : names (ids_of ids) id ≡ true

-- the command of this ticket was marked
abbrev pub was_marked : State → Service → Ticket → Bool
was_marked s service t = list_any (λ a. is_at t a && a.marked) (queue_at s service)

-- the command of this ticket was pending
abbrev pub was_pending : State → Service → Ticket → Bool
was_pending s service t = list_any (is_at t) (queue_at s service)

-- the pass is of this boot, and its connection is open, at this service and this client's
pub record IsOwnPass (old : State) (pass : Pass) (service : Service) (client : ClientId) : Type 0 where
  pub connection : Connection
  pub is_open : connection_of old pass ≡ Some connection
  pub at_service : connection.service ≡ service
  pub its : connection.client.0 ≡ client.0

-- why a command is marked behind an event: it was so before; or it was pending, and its own client canceled it, or has left
pub data IsMarked (old : State) (event : Event) (service : Service) (a : Command Job) : Type 0 where
  before : was_marked old service (ticket_of a) ≡ true → IsMarked old event service a
  canceled_by : (pass : Pass) (text : List ℕ) (now : Moment) → event ≡ post pass text now → IsOwnPass old pass service a.client → was_pending old service (ticket_of a) ≡ true → IsCancelOf service text a.id
      → IsMarked old event service a
  left_by : (pass : Pass) → event ≡ leave pass → IsOwnPass old pass service a.client → was_pending old service (ticket_of a) ≡ true → IsMarked old event service a

-- each marked command is so for a reason
abbrev pub MarksHaveCauses : State → Event → State → Type 0
MarksHaveCauses old event new = (service : Service) → All (λ a. a.marked ≡ true → IsMarked old event service a) (queue_at new service)
