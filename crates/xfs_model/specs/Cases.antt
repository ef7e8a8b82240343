-- What each case of the work does.
use Rattle.std.specs.Prelude.{◌≡◌, ℕ, ◌&&◌, ◌||◌, not, Bool, false, List, ◌∷◌, [], find, Option, None, Some, MatchBool, if◌then◌else◌}
use Rattle.xfs_base.specs.declared.moment.Moment.{Moment}
use Rattle.xfs_base.specs.declared.moment.Service.{Service}
use Rattle.xfs_base.specs.declared.moment.Service.TheVariants.{Cash}
use Rattle.xfs_card.specs.Table as card_reader
use Rattle.xfs_card.specs.declared.state.CardEvent.TheVariants as card_event
use Rattle.xfs_dispenser.specs.Answers.{Start, told, planned, Went, more, done}
use Rattle.xfs_dispenser.specs.Begins.{Begins}
use Rattle.xfs_dispenser.specs.Seen.{Seen}
use Rattle.xfs_dispenser.specs.Steps.{Works}
use Rattle.xfs_dispenser.specs.declared.ask.CashAsk.{CashAsk}
use Rattle.xfs_dispenser.specs.declared.plan.Plan.{Plan}
use Rattle.xfs_envelope.specs.declared.code.Code.TheVariants.{Canceled, InvalidData, TimeOut}
use Rattle.xfs_keyboard.specs.Keyboard as keyboard
use Rattle.xfs_keyboard.specs.declared.state.KeyEvent.TheVariants as key_event
use Rattle.xfs_queue.specs.declared.command.Command.{Command}
use Rattle.xfs_queue.specs.declared.command.Line.TheVariants.{Nonce, Device}
use Rattle.xfs_queue.specs.Commands.{is_due, is_ready, ticket_of, waits_on}
use Rattle.xfs_queue.specs.Queue.{without}
use Rattle.xfs_model.specs.Connections.{announced, sent, with_queue_at}
use Rattle.xfs_model.specs.Devices.{Hears, card_says, device_stopped, keyboard_says, with_keypad, with_slot}
use Rattle.xfs_model.specs.Events.{Answer, did, idle}
use Rattle.xfs_model.specs.Frames.{Announces, IsCompletion}
use Rattle.xfs_model.specs.Guards.{Expires, NonceCommand, is_live}
use Rattle.xfs_model.specs.Results.{changed, outcome, plain, with_plan, with_result}
use Rattle.xfs_model.specs.State.{Ask, cash, card, entry, bad, Ending, Job, Outcome, State, queue_at}
use Rattle.xfs_model.specs.Touches.{running_at}
use Rattle.xfs_model.specs.Work.{Case, order, expire, answer, nonce, overdue, stop, go_on, begin, rest, is_overdue, is_stopped}

-- the command has its result
abbrev pub resulting : State → Service → Command Job → Outcome → State
resulting s service a result = with_queue_at s service (changed (with_result result) a (queue_at s service))

-- what a step of its plan makes of a command: it goes on, or has its result
abbrev pub with_went : Plan → Bool → Went → Command Job → Command Job
with_went plan ended more a = with_plan plan ended a
with_went plan ended (done result) a = with_result (outcome result.code result.payload) (with_plan plan ended a)

-- a nonce lived, and lives no more
abbrev pub has_ended : Seen → Seen → Bool
has_ended old new = is_live old && not (is_live new)

-- a step of the plan that runs
pub record WorksOnPlan (s new : State) : Type 0 where
  pub command : Command Job
  pub runs : running_at s Cash ≡ Some command
  pub plan : Plan
  pub planned : command.job.plan ≡ Some plan
  pub next : Seen
  pub left : Plan
  pub went : Went
  pub works : Works s.seen plan next left went
  pub is : new ≡ record (with_queue_at s Cash (changed (with_went left (command.job.ended_nonce || has_ended s.seen next) went) command (queue_at s Cash))) { seen = next }

-- the life of the live nonce is over, and where it ended, every connection of the dispenser hears it
pub record EndsLife (s new : State) : Type 0 where
  pub ending : Option Ending
  pub next : Seen
  pub frame : Option (List ℕ)
  pub expires : Expires s ending next
  pub announces : Announces ending frame
  pub is : new ≡ record (announced s Cash frame) { seen = next }

-- the first command that has its result is answered, and no longer pending; a nonce that ended with it is announced before
pub record AnswersFirst (s : State) (service : Service) (new : State) : Type 0 where
  pub command : Command Job
  pub first : find (λ a. is_ready a.stage) (queue_at s service) ≡ Some command
  pub result : Outcome
  pub has : command.job.outcome ≡ Some result
  pub before : Option (List ℕ)
  pub announces : Announces result.ending before
  pub last : List ℕ
  pub completes : IsCompletion command.id command.job.name result.code result.payload last
  pub is : new ≡ with_queue_at (sent (announced s service before) service command.client (last ∷ [])) service (without (queue_at s service) (ticket_of command))

-- a nonce command is done
pub record DoesNonce (s : State) (a : Command Job) (new : State) : Type 0 where
  pub result : Outcome
  pub next : Seen
  pub issued : Moment
  pub done : NonceCommand s a.job.ask result next issued
  pub is : new ≡ record (resulting s Cash a result) { seen = next; issued = issued }

-- the first command of the nonce line is done, or its deadline has come
pub record TakesNonce (s new : State) : Type 0 where
  pub command : Command Job
  pub first : find (waits_on Nonce) (queue_at s Cash) ≡ Some command
  pub is : MatchBool (is_due s.now command) (new ≡ resulting s Cash command (plain TimeOut)) (DoesNonce s command new)

-- the first command that waits on the device line, and whose deadline has come
pub record IsTooLate (s : State) (service : Service) (new : State) : Type 0 where
  pub command : Command Job
  pub first : find (is_overdue s) (queue_at s service) ≡ Some command
  pub is : new ≡ resulting s service command (plain TimeOut)

-- the running command is stopped: it is canceled, or its deadline has come; its device forgets it
pub record Stops (s : State) (service : Service) (new : State) : Type 0 where
  pub command : Command Job
  pub first : find (is_stopped s) (queue_at s service) ≡ Some command
  pub is : new ≡ device_stopped (resulting s service command (plain (if command.marked then Canceled else TimeOut))) service

-- what its checks make of a command of the dispenser: it has its result, or a plan
abbrev pub with_start : Start → Command Job → Command Job
with_start (told result) a = with_result (outcome result.code result.payload) a
with_start (planned plan) a = with_plan plan false a

pub record BeginsCash (s : State) (service : Service) (a : Command Job) (ask : CashAsk) (new : State) : Type 0 where
  pub next : Seen
  pub exchange : Bool
  pub start : Start
  pub begins : Begins s.seen s.exchange ask next exchange start
  pub is : new ≡ record (with_queue_at s service (changed (with_start start) a (queue_at s service))) { seen = next; exchange = exchange }

-- what a command that is begun comes to, by what it asks
abbrev pub BeginsAs : Ask → State → Service → Command Job → State → Type 0
BeginsAs bad s service a new = new ≡ resulting s service a (plain InvalidData)
BeginsAs (cash ask) s service a new = BeginsCash s service a ask new
BeginsAs (card ask) s service a new = let row = card_reader.row_of s.slot (card_event.Begin ask) in Hears (with_slot s row.next) service a (card_says row.effect) new
BeginsAs (entry ask) s service a new = let row = keyboard.row_of s.keypad (key_event.Begin ask) in Hears (with_keypad s row.next) service a (keyboard_says row.effect) new
BeginsAs other s service a new = ⊥

-- the first command that waits on the device line is begun
pub record BeginsFirst (s : State) (service : Service) (new : State) : Type 0 where
  pub command : Command Job
  pub first : find (waits_on Device) (queue_at s service) ≡ Some command
  pub alone : running_at s service ≡ None
  pub begins : BeginsAs command.job.ask s service command new

abbrev pub Does : Case → State → Service → State → Type 0
Does order s service new = WorksOnPlan s new
Does expire s service new = EndsLife s new
Does answer s service new = AnswersFirst s service new
Does nonce s service new = TakesNonce s new
Does overdue s service new = IsTooLate s service new
Does stop s service new = Stops s service new
Does go_on s service new = WorksOnPlan s new
Does begin s service new = BeginsFirst s service new
Does rest s service new = new ≡ s

-- nothing was done exactly where no case applies
abbrev pub told_by : Case → Answer
told_by rest = idle
told_by other = did
