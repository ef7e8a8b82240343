-- A command that is posted to a dispenser at rest is accepted, and is next.
use Rattle.std.specs.Prelude.{◌≡◌, ◌++◌, ℕ, true, List, [], ◌∷◌, None, Some, Ok}
use Rattle.xfs_base.specs.declared.moment.Moment.{Moment}
use Rattle.xfs_base.specs.declared.moment.Service.TheVariants.{Cash}
use Rattle.xfs_conversation.specs.Pending.{is_request_id}
use Rattle.xfs_dispenser.specs.Asks.{ask_of}
use Rattle.xfs_dispenser.specs.Commands.{cash_command}
use Rattle.xfs_dispenser.specs.declared.ask.CashAsk.{CashAsk}
use Rattle.xfs_dispenser.specs.declared.command.CashCommand.{CashCommand}
use Rattle.xfs_envelope.specs.Commands as envelope
use Rattle.xfs_envelope.specs.Commands.{command_in}
use Rattle.xfs_model.specs.Connections.{connection_of}
use Rattle.xfs_model.specs.Events.{done, post}
use Rattle.xfs_model.specs.Frames.{IsAcknowledge}
use Rattle.xfs_model.specs.State.{Connection, Job, Pass, State}
use Rattle.xfs_model.specs.Step.{Step}
use Rattle.xfs_queue.specs.declared.command.Command.{Command}
use Rattle.xfs_withdrawals.specs.Turning.{IsNext}

-- a client that is connected to the dispenser says a command that asks this, by an id that a command may have
pub record IsPosted (ask : CashAsk) (s new : State) : Type 0 where
  pub pass : Pass
  pub text : List ℕ
  pub now : Moment
  pub step : Step s (post pass text now) done new
  pub connection : Connection
  pub open_now : connection_of s pass ≡ Some connection
  pub service : connection.service ≡ Cash
  pub command : envelope.Command
  pub reads : command_in text ≡ Ok command
  pub id : is_request_id command.id ≡ true
  pub kind : CashCommand
  pub named : cash_command command.name ≡ Some kind
  pub asks : ask_of kind command.payload ≡ Ok ask

-- a command that was posted is accepted, and is next: its acknowledge waits behind what waited before, and what is seen of the guard stays
pub record IsAccepted (ask : CashAsk) (s new : State) (posted : IsPosted ask s new) : Type 0 where
  pub command : Command Job
  pub id : command.id ≡ posted.command.id
  pub name : command.job.name ≡ posted.command.name
  pub client : command.client ≡ posted.connection.client
  pub acknowledge : List ℕ
  pub acknowledges : IsAcknowledge (Some posted.command.id) (Some posted.command.name) None acknowledge
  pub next : IsNext new command ask (posted.connection.waiting ++ acknowledge ∷ [])
  pub same : new.seen ≡ s.seen
