-- A pending command is named by its client and id; its deadline is the accepted moment plus the timeout, and has come where the timeout isn't 0 and the moment is at least that.
use Rattle.std.specs.Prelude.{ℕ, ◌+◌, ◌==◌, ◌&&◌, not, nat_le, Bool, true, false}
use Rattle.std.specs.List.{list_any}
use Rattle.xfs_base.specs.declared.moment.ClientId.{ClientId}
use Rattle.xfs_base.specs.declared.moment.Moment.{Moment}
use Rattle.xfs_queue.specs.declared.command.Line.{Line}
use Rattle.xfs_queue.specs.declared.command.Line.TheVariants.{Nonce, Device}
use Rattle.xfs_queue.specs.declared.command.Stage.{Stage}
use Rattle.xfs_queue.specs.declared.command.Stage.TheVariants.{Waiting, Running, Ready}
use Rattle.xfs_queue.specs.declared.command.Ticket.{Ticket}
use Rattle.xfs_queue.specs.declared.command.Ids.{Ids}
use Rattle.xfs_queue.specs.declared.command.Ids.TheVariants.{All, These}
use Rattle.xfs_queue.specs.declared.command.Command.{Command}
use Rattle.xfs_queue.specs.declared.command.Pending.{Pending}

abbrev pub is_waiting : Stage → Bool
is_waiting Waiting = true
is_waiting Running = false
is_waiting Ready = false

abbrev pub is_running : Stage → Bool
is_running Waiting = false
is_running Running = true
is_running Ready = false

abbrev pub is_ready : Stage → Bool
is_ready Waiting = false
is_ready Running = false
is_ready Ready = true

-- whether two lines are one
abbrev pub is_on : Line → Line → Bool
is_on Nonce Nonce = true
is_on Nonce Device = false
is_on Device Nonce = false
is_on Device Device = true

-- whether two tickets are one
abbrev pub is_ticket : Ticket → Ticket → Bool
is_ticket t u = (u.client.0 == t.client.0) && (u.id == t.id)

-- whether the ids name this one
abbrev pub names : Ids → ℕ → Bool
names All id = true
names (These ids) id = list_any (λ n. n == id) ids

module _ {J : Type 0} where
  abbrev pub ticket_of : Command J → Ticket
  ticket_of p = record { client = p.client; id = p.id }

  abbrev pub pending_of : Command J → Pending J
  pending_of p = record { client = p.client; id = p.id; job = p.job }

  -- whether this is the command that the ticket names
  abbrev pub is_at : Ticket → Command J → Bool
  is_at t p = is_ticket t (ticket_of p)

  -- whether this is a command of the client
  abbrev pub is_of : ClientId → Command J → Bool
  is_of client p = p.client.0 == client.0

  -- whether this waits on the line
  abbrev pub waits_on : Line → Command J → Bool
  waits_on line p = is_waiting p.stage && is_on p.line line

  -- whether this waits on the device line and has a timeout
  abbrev pub has_deadline : Command J → Bool
  has_deadline p = waits_on Device p && not (p.timeout == 0)

  abbrev pub deadline : Command J → ℕ
  deadline p = p.accepted.0 + p.timeout

  -- whether the deadline has come
  abbrev pub is_due : Moment → Command J → Bool
  is_due now p = not (p.timeout == 0) && nat_le (deadline p) now.0
