-- What every call of the machine keeps, and its type has as its invariant.
use Rattle.std.specs.Prelude.{◌≡◌, ◌≢◌, ◌≤◌, true, false, ⊤, All, MatchOption, None, is_some}
use Rattle.xfs_base.specs.declared.moment.Service.{Service}
use Rattle.xfs_base.specs.declared.moment.Service.TheVariants.{Card, Keys, Cash}
use Rattle.xfs_card.specs.Slot.{is_awaited}
use Rattle.xfs_dispenser.specs.Plans.{IsPlanned}
use Rattle.xfs_guard.specs.View.{View}
use Rattle.xfs_queue.specs.Commands.{is_ready, is_running, is_waiting}
use Rattle.xfs_queue.specs.declared.command.Command.{Command}
use Rattle.xfs_queue.specs.declared.command.Line.{Line}
use Rattle.xfs_queue.specs.declared.command.Line.TheVariants.{Nonce, Device}
use Rattle.xfs_model.specs.Causes.{HasCauses}
use Rattle.xfs_model.specs.Kept.{IsMachine}
use Rattle.xfs_model.specs.State.{Ask, issue, clear, cash, card, entry, bad, Job, State, queue_at}
use Rattle.xfs_model.specs.Work.{has_running, is_ordered}

-- what is asked on a line of a service: of the nonce at the dispenser alone, and of each device what it does, or its members are bad
abbrev pub MayAsk : Service → Line → Ask → Type 0
MayAsk Cash Nonce issue = ⊤
MayAsk Cash Nonce clear = ⊤
MayAsk Cash Device (cash ask) = ⊤
MayAsk Cash Device bad = ⊤
MayAsk Card Device (card ask) = ⊤
MayAsk Card Device bad = ⊤
MayAsk Keys Device (entry ask) = ⊤
MayAsk Keys Device bad = ⊤
MayAsk service line ask = ⊥

-- a command asks what its service does on its line
abbrev pub IsFitting : Service → Command Job → Type 0
IsFitting service a = MayAsk service a.line a.job.ask

-- before it is ready a command has no result, and while it waits no plan
pub record IsFresh (a : Command Job) : Type 0 where
  pub outcome : is_ready a.stage ≡ false → a.job.outcome ≡ None
  pub plan : is_waiting a.stage ≡ true → a.job.plan ≡ None
  pub ended : is_waiting a.stage ≡ true → a.job.ended_nonce ≡ false

-- while it runs a command of the dispenser has a plan, and it can be worked on
abbrev pub IsOnPlan : View → Command Job → Type 0
IsOnPlan v a = is_running a.stage ≡ true → MatchOption a.job.plan ⊥ (IsPlanned v)

-- a Read waits for a card exactly while a command runs at the reader, and an entry is active exactly while one runs at the keyboard
pub record AreTied (s : State) : Type 0 where
  pub slot : is_awaited s.slot ≡ has_running s Card
  pub keypad : is_some s.keypad ≡ has_running s Keys

-- As long as the machine is there, an order is open only while a command of the dispenser runs. The live nonce was issued no later than now.
pub record IsSound (s : State) : Type 0 where
  pub machine : IsMachine s
  pub causes : HasCauses s
  pub asks : (service : Service) → All (IsFitting service) (queue_at s service)
  pub fresh : (service : Service) → All IsFresh (queue_at s service)
  pub planned : All (IsOnPlan s.seen.guard) (queue_at s Cash)
  pub ordered : s.boot ≢ 0 → is_ordered s.seen.guard.open_order ≡ true → has_running s Cash ≡ true
  pub devices : AreTied s
  pub issued : s.issued.0 ≤ s.now.0
