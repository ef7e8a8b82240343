-- The machine between two calls: what it sees of its guard, its devices, its connections, and the pending commands of each service in order of arrival.
use Rattle.std.specs.Prelude.{ℕ, List, [], Bool, false, Option, None}
use Rattle.serde_json.specs.Data.{Data}
use Rattle.xfs_base.specs.declared.moment.ClientId.{ClientId}
use Rattle.xfs_base.specs.declared.moment.Moment.{Moment}
use Rattle.xfs_base.specs.declared.moment.Service.{Service}
use Rattle.xfs_base.specs.declared.moment.Service.TheVariants.{Publisher, Card, Keys, Cash}
use Rattle.xfs_card.specs.Slot.{Slot, empty}
use Rattle.xfs_card.specs.declared.ask.CardAsk.{CardAsk}
use Rattle.xfs_dispenser.specs.Seen.{Seen}
use Rattle.xfs_dispenser.specs.declared.ask.CashAsk.{CashAsk}
use Rattle.xfs_dispenser.specs.declared.plan.Plan.{Plan}
use Rattle.xfs_envelope.specs.declared.code.Code.{Code}
use Rattle.xfs_keyboard.specs.Entries.{Entry}
use Rattle.xfs_keyboard.specs.declared.ask.EntryAsk.{EntryAsk}
use Rattle.xfs_queue.specs.declared.command.Command.{Command}

-- what a connection is told by: its client's number, its service, and the number of the boot record of the boot in which it joined
pub record Pass : Type 0 where
  pub client : ClientId
  pub service : Service
  pub boot : ℕ

-- an open connection, and the frames that wait for its client
pub record Connection : Type 0 where
  pub client : ClientId
  pub service : Service
  pub waiting : List (List ℕ)

-- what a pending command asks: a nonce, that the nonce ends, something of a device; or its members are bad
pub data Ask : Type 0 where
  issue : Ask
  clear : Ask
  cash : CashAsk → Ask
  card : CardAsk → Ask
  entry : EntryAsk → Ask
  bad : Ask

-- how a live nonce ended, where that is announced
pub data Ending : Type 0 where
  cleared : Ending
  reset : Ending
  expired : Ending

-- a result: the completion code and payload, and how a nonce ended with it
pub record Outcome : Type 0 where
  pub code : Code
  pub payload : Data
  pub ending : Option Ending

-- what a pending command is about: its name; what it asks; once it runs the plan of a dispenser's command, and whether its restore ended a live nonce; and once it is ready its result
pub record Job : Type 0 where
  pub name : List ℕ
  pub ask : Ask
  pub plan : Option Plan
  pub ended_nonce : Bool
  pub outcome : Option Outcome

pub record Queues : Type 0 where
  pub publisher : List (Command Job)
  pub card : List (Command Job)
  pub keys : List (Command Job)
  pub cash : List (Command Job)

-- The life of a nonce is in milliseconds, 0 for one without an end; `issued` is the moment at which the live nonce was issued. `boot` is the number of this boot's boot record, and 0 once the machine is gone.
-- `given` client numbers were given since the boot.
pub record State : Type 0 where
  pub seen : Seen
  pub life : ℕ
  pub issued : Moment
  pub boot : ℕ
  pub exchange : Bool
  pub now : Moment
  pub slot : Slot
  pub keypad : Option Entry
  pub given : ℕ
  pub connections : List Connection
  pub queues : Queues

abbrev pub no_commands : Queues
no_commands = record { publisher = []; card = []; keys = []; cash = [] }

-- a machine over a guard, with no connection, command, card, entry or exchange
abbrev pub bare : Seen → ℕ → ℕ → State
bare seen life boot = record {
  seen = seen;
  life = life;
  issued = record { 0 = 0 };
  boot = boot;
  exchange = false;
  now = record { 0 = 0 };
  slot = empty;
  keypad = None;
  given = 0;
  connections = [];
  queues = no_commands;
}

abbrev pub queue_of : Queues → Service → List (Command Job)
queue_of qs Publisher = qs.publisher
queue_of qs Card = qs.card
queue_of qs Keys = qs.keys
queue_of qs Cash = qs.cash

abbrev pub with_queue : Queues → Service → List (Command Job) → Queues
with_queue qs Publisher q = record qs { publisher = q }
with_queue qs Card q = record qs { card = q }
with_queue qs Keys q = record qs { keys = q }
with_queue qs Cash q = record qs { cash = q }

-- the pending commands of a service
abbrev pub queue_at : State → Service → List (Command Job)
queue_at s service = queue_of s.queues service
