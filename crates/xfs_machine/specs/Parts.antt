-- A machine with another dispenser beside other parts. What a call does to some parts of a machine is said for every machine that has them.
use Rattle.std.specs.Prelude.{◌≡◌, ◌≢◌, ◌⊎◌, ◌||◌, List, Bool, Option, None, Some, find}
use Rattle.xfs_base.specs.declared.moment.Moment.{Moment}
use Rattle.xfs_disk.specs.declared.disk.Disk.{Ghosts}
use Rattle.xfs_dispenser.specs.Answers.{Went, more, done}
use Rattle.xfs_dispenser.specs.Plans.{IsPlanned}
use Rattle.xfs_dispenser.specs.Seen.{Seen, seen}
use Rattle.xfs_dispenser.specs.Steps.{MayWork}
use Rattle.xfs_dispenser.specs.declared.plan.Plan.{Plan}
use Rattle.xfs_guard.specs.View.{View}
use Rattle.xfs_machine.specs.declared.dispenser.Dispenser.{Dispenser}
use Rattle.xfs_mech.specs.declared.motion.Motion.{Motion}
use Rattle.xfs_queue.specs.Commands.{is_running, waits_on}
use Rattle.xfs_queue.specs.Queue.{IsWaiting}
use Rattle.xfs_queue.specs.declared.command.Line.TheVariants.{Nonce, Device}
use Rattle.xfs_queue.specs.declared.command.Command.{Command}
use Rattle.xfs_queue.specs.declared.command.Ticket.{Ticket}
use Rattle.xfs_model.specs.Results.{outcome, with_result}
use Rattle.xfs_model.specs.State.{issue, clear, Job, Queues, State}
use Rattle.xfs_traffic.specs.Parts.{with_devices, with_traffic}
use Rattle.xfs_traffic.specs.declared.devices.Devices.{Devices}
use Rattle.xfs_traffic.specs.declared.traffic.Traffic.{Traffic}

-- a machine at a moment, with this dispenser and these pending commands
abbrev pub at_dispenser : {M D : Type 0} → Ghosts D → State → Moment → Dispenser M D → Queues → State
at_dispenser g s now dispenser queues = record s { seen = seen g dispenser.guard; life = dispenser.life; issued = dispenser.issued; exchange = dispenser.exchange; now = now; queues = queues }

-- a machine with these devices and this traffic
abbrev pub at_devices : State → Devices → Traffic → State
at_devices s devices traffic = with_traffic (with_devices s devices) traffic

-- a machine at a moment, with all that a step of work changes
abbrev pub at_work : {M D : Type 0} → Ghosts D → State → Moment → Dispenser M D → Devices → Traffic → State
at_work g s now dispenser devices traffic = at_devices (at_dispenser g s now dispenser s.queues) devices traffic

abbrev pub at_cash : State → Seen → Queues → State
at_cash s next queues = record s { seen = next; queues = queues }

-- the command with another plan, or none
abbrev pub with_job_plan : Option Plan → Command Job → Command Job
with_job_plan plan a = record a { job = record a.job { plan = plan } }

-- the command with its plan behind a step, in which a live nonce may have ended
abbrev pub with_plan_kept : Plan → Bool → Command Job → Command Job
with_plan_kept plan ended a = record a { job = record a.job { plan = Some plan; ended_nonce = a.job.ended_nonce || ended } }

-- the command with its plan behind a step: it goes on, or has its result
abbrev pub with_step : Plan → Bool → Went → Command Job → Command Job
with_step plan ended more a = with_plan_kept plan ended a
with_step plan ended (done result) a = with_result (outcome result.code result.payload) (with_plan_kept plan ended a)

-- a command that waits may start: none runs
pub record MayStart (ticket : Ticket) (queue : List (Command Job)) : Type 0 where
  pub waiting : IsWaiting queue ticket
  pub idle : find (λ a. is_running a.stage) queue ≡ None

-- a command runs whose plan can be worked on
pub record HasPlan (v : View) (q : List (Command Job)) : Type 0 where
  pub command : Command Job
  pub runs : find (λ a. is_running a.stage) q ≡ Some command
  pub plan : Plan
  pub planned : command.job.plan ≡ Some plan
  pub can : IsPlanned v plan

-- an entry that a step of the running plan may add to the mechanism's list
abbrev pub MayStep : View → List (Command Job) → Motion → Type 0
MayStep v q entry = (a : Command Job) × (plan : Plan) × (find (λ b. is_running b.stage) q ≡ Some a) × (a.job.plan ≡ Some plan) × MayWork v plan entry

-- a command waits on the nonce line, and the first that does asks for a nonce, or that it ends
pub record HasNonceAsk (q : List (Command Job)) : Type 0 where
  pub command : Command Job
  pub first : find (waits_on Nonce) q ≡ Some command
  pub asks : (command.job.ask ≡ issue) ⊎ (command.job.ask ≡ clear)

-- a command waits on the device line, and the first that does asks something of a device, or its members are bad
pub record HasDeviceAsk (q : List (Command Job)) : Type 0 where
  pub command : Command Job
  pub first : find (waits_on Device) q ≡ Some command
  pub no_issue : command.job.ask ≢ issue
  pub no_clear : command.job.ask ≢ clear
