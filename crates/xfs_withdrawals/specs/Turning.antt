-- A command of the dispenser that is turned: what the machine is when it is next, and what happens until it has its answer.
use Rattle.std.specs.Prelude.{◌≡◌, ◌≢◌, ℕ, suc, ◌++◌, List, [], ◌∷◌, false, Some}
use Rattle.xfs_base.specs.declared.moment.ClientId.{ClientId}
use Rattle.xfs_base.specs.declared.moment.Moment.{Moment}
use Rattle.xfs_base.specs.declared.moment.Service.TheVariants.{Cash}
use Rattle.xfs_dispenser.specs.Complete.{IsCalm}
use Rattle.xfs_dispenser.specs.declared.ask.CashAsk.{CashAsk}
use Rattle.xfs_guard.specs.declared.open.Open.TheVariants.{No}
use Rattle.xfs_model.specs.Connections.{connection_at}
use Rattle.xfs_model.specs.Conversations.{frames_after}
use Rattle.xfs_model.specs.Events.{Answer, handed, memory, outbox, work}
use Rattle.xfs_model.specs.Posts.{job_of}
use Rattle.xfs_model.specs.State.{Connection, Job, Pass, State, cash, queue_at}
use Rattle.xfs_model.specs.Step.{Step, at_moment}
use Rattle.xfs_model.specs.Work.{is_life_over}
use Rattle.xfs_queue.specs.Commands.{is_due}
use Rattle.xfs_queue.specs.Queue.{offered}
use Rattle.xfs_queue.specs.declared.command.Command.{Command}
use Rattle.xfs_queue.specs.declared.command.Line.TheVariants.{Device}

-- a client's connection to the dispenser is open, and these frames wait for it
pub record IsConnected (s : State) (client : ClientId) (waiting : List (List ℕ)) : Type 0 where
  pub connection : Connection
  pub found : connection_at s client ≡ Some connection
  pub service : connection.service ≡ Cash
  pub waits : connection.waiting ≡ waiting

-- no order is open and no exchange active
pub record IsAtRest (s : State) : Type 0 where
  pub settled : s.seen.guard.open_order ≡ No
  pub inactive : s.exchange ≡ false

-- no order is open, no exchange active, and no command of the dispenser pending
pub record IsIdle (s : State) : Type 0 where
  pub empty : queue_at s Cash ≡ []
  pub at_rest : IsAtRest s

-- the dispenser has one pending command, which asks this and is as it was accepted; its client is connected
pub record IsNext (s : State) (a : Command Job) (ask : CashAsk) (waiting : List (List ℕ)) : Type 0 where
  pub alone : queue_at s Cash ≡ a ∷ []
  pub accepted : a ≡ offered a.client a.id Device a.timeout a.accepted (job_of a.job.name (cash ask))
  pub at_rest : IsAtRest s
  pub connected : IsConnected s a.client waiting

-- the command's deadline hasn't come, nor is the life of the live nonce over
pub record IsInTime (s : State) (a : Command Job) : Type 0 where
  pub deadline : is_due s.now a ≡ false
  pub life : is_life_over s ≡ false

-- So many steps of the dispenser's work lead to this last state, each in time for the command. Between them clients are handed what waits for them: the frames are those that the command's own client was handed. A step that wants memory isn't counted.
pub data Turned (a : Command Job) (last : State) : ℕ → State → List (List ℕ) → Type 0 where
  ended : Turned a last 0 last []
  hears : {turns : ℕ} {s middle : State} {frames : List (List ℕ)} → (pass : Pass) (more : List (List ℕ)) → Step s (outbox pass) (handed more) middle → Turned a last turns middle frames
      → Turned a last turns s (frames_after s [] (outbox pass) (handed more) a.client ++ frames)
  wants : {turns : ℕ} {s middle : State} {frames : List (List ℕ)} → (now : Moment) → Step s (work Cash now) memory middle → Turned a last turns middle frames → Turned a last turns s frames
  works : {turns : ℕ} {s middle : State} {frames : List (List ℕ)} → (now : Moment) (answer : Answer) → answer ≢ memory → IsInTime (at_moment s now) a → Step s (work Cash now) answer middle
      → Turned a last turns middle frames → Turned a last (suc turns) s frames

-- a command is turned so many times, and no count of faults rises; from which state and to which, what waited for its client at first, and what it was handed
pub record Turning : Type 0 where
  pub command : Command Job
  pub start : State
  pub waiting : List (List ℕ)
  pub turns : ℕ
  pub frames : List (List ℕ)
  pub last : State
  pub turned : Turned command last turns start frames
  pub calm : IsCalm start.seen last.seen
