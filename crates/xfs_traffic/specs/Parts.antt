-- A machine with other traffic and other devices. What a call does to some parts of a machine is said for every machine that has them.
use Rattle.std.specs.Prelude.{◌≡◌, ℕ, List, [], ◌∷◌, Option, Some, None, find, map}
use Rattle.xfs_base.specs.declared.moment.ClientId.{ClientId}
use Rattle.xfs_base.specs.declared.moment.Service.{Service}
use Rattle.xfs_card.specs.Slot.{Slot}
use Rattle.xfs_keyboard.specs.Entries.{Entry}
use Rattle.xfs_queue.specs.Commands.{is_ready}
use Rattle.xfs_queue.specs.declared.command.Command.{Command}
use Rattle.xfs_model.specs.Connections.{is_at, is_service, with_mail}
use Rattle.xfs_model.specs.State.{Connection, Job, Outcome, State}
use Rattle.xfs_traffic.specs.declared.devices.Devices.{Devices}
use Rattle.xfs_traffic.specs.declared.traffic.Traffic.{Traffic}

-- a machine with this traffic
abbrev pub with_traffic : State → Traffic → State
with_traffic s traffic = record s { connections = traffic.connections; queues = traffic.queues }

-- a machine with these devices
abbrev pub with_devices : State → Devices → State
with_devices s devices = record s { slot = devices.slot; keypad = devices.keypad }

abbrev pub at_card : State → Slot → Traffic → State
at_card s slot traffic = record (with_traffic s traffic) { slot = slot }

abbrev pub at_keys : State → Option Entry → Traffic → State
at_keys s keypad traffic = record (with_traffic s traffic) { keypad = keypad }

-- a command is ready, and the first that is has its result
pub record HasResult (q : List (Command Job)) : Type 0 where
  pub command : Command Job
  pub first : find (λ a. is_ready a.stage) q ≡ Some command
  pub result : Outcome
  pub has : command.job.outcome ≡ Some result

-- connections with an announcement, if there is one, and then a frame for one of them
abbrev pub mailed_behind : Service → ClientId → Option (List ℕ) → List ℕ → List Connection → List Connection
mailed_behind service client None last ks = map (λ k. with_mail (is_at service client k) (last ∷ []) k) ks
mailed_behind service client (Some frame) last ks = map (λ k. with_mail (is_at service client k) (last ∷ []) k) (map (λ k. with_mail (is_service service k.service) (frame ∷ []) k) ks)
