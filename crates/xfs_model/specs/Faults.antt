-- Why a command has the result hardwareError: the mechanism failed in a step for it, or its device had a fault while it ran; and why it has the result deviceNotReady.
use Rattle.std.specs.Prelude.{◌≡◌, ◌&&◌, ◌||◌, Bool, true, false, All, Option, None, Some}
use Rattle.std.specs.List.{list_any}
use Rattle.xfs_base.specs.Causes.{Rose}
use Rattle.xfs_base.specs.declared.moment.Service.{Service}
use Rattle.xfs_base.specs.declared.moment.Service.TheVariants.{Card, Keys, Cash}
use Rattle.xfs_dispenser.specs.declared.plan.Plan.{Plan}
use Rattle.xfs_envelope.specs.declared.code.Code.{Code}
use Rattle.xfs_envelope.specs.declared.code.Code.TheVariants.{DeviceNotReady, HardwareError}
use Rattle.xfs_mech.specs.declared.touch.Touch.TheVariants.{CardFault, KeyFault}
use Rattle.xfs_queue.specs.Commands.{is_at, is_running, ticket_of}
use Rattle.xfs_queue.specs.declared.command.Command.{Command}
use Rattle.xfs_queue.specs.declared.command.Ticket.{Ticket}
use Rattle.xfs_model.specs.Events.{Event, touch}
use Rattle.xfs_model.specs.Guards.{IsUnrestored, is_fit}
use Rattle.xfs_model.specs.State.{Job, Outcome, State, queue_at}

abbrev pub is_hardware_error : Code → Bool
is_hardware_error HardwareError = true
is_hardware_error other = false

abbrev pub tells_fault : Option Outcome → Bool
tells_fault None = false
tells_fault (Some result) = is_hardware_error result.code

-- the mechanism failed at the order of the plan that was carried out last
abbrev pub has_failed : Option Plan → Bool
has_failed None = false
has_failed (Some plan) = plan.failed

-- the result is hardwareError, or it will be once the order is settled
abbrev pub is_faulted : Command Job → Bool
is_faulted a = tells_fault a.job.outcome || has_failed a.job.plan

-- the command of this ticket was to have the result hardwareError before
abbrev pub was_faulted : State → Service → Ticket → Bool
was_faulted s service t = list_any (λ a. is_at t a && is_faulted a) (queue_at s service)

-- the command of this ticket ran
abbrev pub ran : State → Service → Ticket → Bool
ran s service t = list_any (λ a. is_at t a && is_running a.stage) (queue_at s service)

-- why a command has, or will have, the result hardwareError behind a step
pub data IsFaulted (old : State) (event : Event) (new : State) (service : Service) (a : Command Job) : Type 0 where
  before : was_faulted old service (ticket_of a) ≡ true → IsFaulted old event new service a
  mechanism : service ≡ Cash → ran old service (ticket_of a) ≡ true → Rose old.seen.guard.faults new.seen.guard.faults → IsFaulted old event new service a
  card_fault : service ≡ Card → ran old service (ticket_of a) ≡ true → event ≡ touch CardFault → IsFaulted old event new service a
  key_fault : service ≡ Keys → ran old service (ticket_of a) ≡ true → event ≡ touch KeyFault → IsFaulted old event new service a

abbrev pub FaultsHaveCauses : State → Event → State → Type 0
FaultsHaveCauses old event new = (service : Service) → All (λ a. is_faulted a ≡ true → IsFaulted old event new service a) (queue_at new service)

abbrev pub is_not_ready : Code → Bool
is_not_ready DeviceNotReady = true
is_not_ready other = false

-- the result is deviceNotReady
abbrev pub is_refused : Option Outcome → Bool
is_refused None = false
is_refused (Some result) = is_not_ready result.code

abbrev pub was_refused : State → Service → Ticket → Bool
was_refused s service t = list_any (λ a. is_at t a && is_refused a.job.outcome) (queue_at s service)

-- why a command has the result deviceNotReady behind a step: it had it before; the journal took no more records; its disk failed in this step; or the journal wasn't read again
pub data IsRefused (old : State) (new : State) (service : Service) (a : Command Job) : Type 0 where
  so_before : was_refused old service (ticket_of a) ≡ true → IsRefused old new service a
  unfit : service ≡ Cash → is_fit old.seen ≡ false → IsRefused old new service a
  disk : service ≡ Cash → Rose old.seen.disk_faults new.seen.disk_faults → IsRefused old new service a
  unrestored : service ≡ Cash → IsUnrestored old.seen new.seen → IsRefused old new service a

abbrev pub RefusalsHaveCauses : State → State → Type 0
RefusalsHaveCauses old new = (service : Service) → All (λ a. is_refused a.job.outcome ≡ true → IsRefused old new service a) (queue_at new service)
