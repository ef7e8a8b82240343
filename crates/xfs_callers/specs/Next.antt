-- What taking the next command out of a queue does.
use Rattle.std.specs.Prelude.{◌≡◌, List, find, Some}
use Rattle.std.specs.Option.{option_map}
use Rattle.xfs_queue.specs.Commands.{pending_of, ticket_of, waits_on}
use Rattle.xfs_queue.specs.Queue.{command_at, without}
use Rattle.xfs_queue.specs.declared.command.Command.{Command}
use Rattle.xfs_queue.specs.declared.command.Line.{Line}
use Rattle.xfs_queue.specs.declared.command.Pending.{Pending}
use Rattle.xfs_queue.specs.declared.command.Ticket.{Ticket}

-- the first command that waits on the line was taken out, and all others stay
pub record TakesFirst {J : Type 0} (line : Line) (old new : List (Command J)) (taken : Pending J) : Type 0 where
  pub ticket : Ticket
  pub first : option_map ticket_of (find (waits_on line) old) ≡ Some ticket
  pub had : option_map pending_of (command_at old ticket) ≡ Some taken
  pub rest : new ≡ without old ticket
