-- The commands that are done at once: none of them changes the guard or a device, and a Cancel alone changes other commands.
use Rattle.std.specs.Prelude.{◌≡◌, ℕ, List, map, ◌&&◌, Option, None, Some, Result, Ok, Err, if◌then◌else◌}
use Rattle.std.specs.List.{list_any}
use Rattle.serde_json.specs.Data.{Data}
use Rattle.xfs_base.specs.declared.moment.ClientId.{ClientId}
use Rattle.xfs_base.specs.declared.moment.Service.{Service}
use Rattle.xfs_json.specs.declared.members.Shape.{Shape}
use Rattle.xfs_common.specs.Cancel.{request_ids}
use Rattle.xfs_common.specs.Commands.{immediate_of}
use Rattle.xfs_common.specs.Payloads.{nothing, status_payload, capabilities_payload, services_payload}
use Rattle.xfs_common.specs.declared.command.Immediate.{Immediate}
use Rattle.xfs_common.specs.declared.command.Immediate.TheVariants.{Status, Capabilities, Cancel, GetServices, GetStorage, GetPresentStatus}
use Rattle.xfs_common.specs.declared.error.ErrorCode.TheVariants.{NoMatchingRequestIds}
use Rattle.xfs_common.specs.declared.payloads.Fit2.{Fit2}
use Rattle.xfs_common.specs.declared.payloads.Fit2.TheVariants.{Online, HardwareError}
use Rattle.xfs_envelope.specs.Commands as envelope
use Rattle.xfs_envelope.specs.declared.code.Code.TheVariants.{Canceled, InvalidCommand, InvalidData}
use Rattle.xfs_queue.specs.declared.command.Command.{Command}
use Rattle.xfs_queue.specs.declared.command.Ids.{Ids}
use Rattle.xfs_queue.specs.declared.command.Ids.TheVariants.{All, These}
use Rattle.xfs_queue.specs.Commands.{is_waiting}
use Rattle.xfs_queue.specs.Queue.{canceled, is_named}
use Rattle.xfs_units.specs.Payloads.{storage_payload}
use Rattle.xfs_model.specs.Guards.{is_fit}
use Rattle.xfs_model.specs.PresentStatus.{TellsPresented, nonce_in}
use Rattle.xfs_model.specs.Results.{plain, success, error, with_result}
use Rattle.xfs_model.specs.State.{Connection, Job, Outcome, State, queue_at}

-- what a command that is done at once comes to: its result, and the pending commands then
pub record AtOnce : Type 0 where
  pub result : Outcome
  pub queue : List (Command Job)

-- a list of ids, or all
abbrev pub ids_of : Option (List ℕ) → Ids
ids_of None = All
ids_of (Some ids) = These ids

-- a marked command that waits has its result at once
abbrev pub stop : Command Job → Command Job
stop a = if is_waiting a.stage && a.marked then with_result (plain Canceled) a else a

abbrev pub stopped : List (Command Job) → ClientId → Ids → List (Command Job)
stopped q client ids = map stop (canceled q client ids)

-- a Cancel stops the named commands of its client, where one of them is pending
abbrev pub canceling : List (Command Job) → ClientId → Result (Option (List ℕ)) Shape → AtOnce
canceling q client (Err shape) = record { result = plain InvalidData; queue = q }
canceling q client (Ok ids) = if list_any (is_named client (ids_of ids)) q
    then record { result = success nothing; queue = stopped q client (ids_of ids) }
    else record { result = error NoMatchingRequestIds; queue = q }

-- the dispenser is out of order while its journal takes no more records
abbrev pub health_of : State → Fit2
health_of s = if is_fit s.seen then Online else HardwareError

-- what is told of the machine; a name that the service has no command of is invalid
abbrev pub told_of : State → Service → Option Immediate → Outcome
told_of s service (Some Status) = success (status_payload service (health_of s))
told_of s service (Some Capabilities) = success (capabilities_payload service)
told_of s service (Some GetServices) = success services_payload
told_of s service (Some GetStorage) = success (storage_payload s.seen.guard.units s.seen.guard.places)
told_of s service command = plain InvalidCommand

-- what each command comes to, but for GetPresentStatus
abbrev pub done_by : State → Connection → Data → Option Immediate → AtOnce
done_by s k payload (Some Cancel) = canceling (queue_at s k.service) k.client (request_ids payload)
done_by s k payload command = record { result = told_of s k.service command; queue = queue_at s k.service }

abbrev pub done_at_once : State → Connection → envelope.Command → AtOnce
done_at_once s k c = done_by s k c.payload (immediate_of k.service c.name)

-- the result of each; GetPresentStatus tells a token, which is told by what is read in it
abbrev pub ResultsIn : State → Connection → Data → Option Immediate → Outcome → Type 0
ResultsIn s k payload (Some GetPresentStatus) result = TellsPresented s.seen.guard (nonce_in payload) result
ResultsIn s k payload command result = result ≡ (done_by s k payload command).result

-- the result of a command that is done at once
abbrev pub ComesTo : State → Connection → envelope.Command → Outcome → Type 0
ComesTo s k c result = ResultsIn s k c.payload (immediate_of k.service c.name) result
