-- What a machine sees of a job: its ask and its ending, by their kinds.
use Rattle.std.specs.Prelude.{List, [], ◌∷◌, ◌++◌, map, Option, Some, None, if◌then◌else◌}
use Rattle.xfs_base.specs.declared.moment.Service.{Service}
use Rattle.xfs_traffic.specs.declared.job.Ask.{Ask as Asked}
use Rattle.xfs_traffic.specs.declared.job.Ask.TheVariants as asked
use Rattle.xfs_traffic.specs.declared.job.Ending.{Ending as Ended}
use Rattle.xfs_traffic.specs.declared.job.Ending.TheVariants as how
use Rattle.xfs_queue.specs.Commands.{is_at}
use Rattle.xfs_queue.specs.declared.command.Command.{Command}
use Rattle.xfs_queue.specs.declared.command.Ticket.{Ticket}
use Rattle.xfs_model.specs.State.{Ask, Job, Queues, issue, clear, cash, card, entry, bad, Ending, cleared, reset, expired, queue_of, with_queue}

abbrev pub ask_seen : Asked → Ask
ask_seen asked.Issue = issue
ask_seen asked.Clear = clear
ask_seen (asked.Cash ask) = cash ask
ask_seen (asked.Card ask) = card ask
ask_seen (asked.Entry ask) = entry ask
ask_seen asked.Bad = bad

abbrev pub how_ended : Ended → Ending
how_ended how.Cleared = cleared
how_ended how.Reset = reset
how_ended how.Expired = expired

abbrev pub ending_seen : Option Ended → Option Ending
ending_seen None = None
ending_seen (Some ending) = Some (how_ended ending)

-- a change of the command that the ticket names
abbrev pub changed_at : (Command Job → Command Job) → Ticket → List (Command Job) → List (Command Job)
changed_at f t q = map (λ b. if is_at t b then f b else b) q

-- the pending commands with one more of a service, behind its others
abbrev pub with_last : Queues → Service → Command Job → Queues
with_last qs service a = with_queue qs service (queue_of qs service ++ a ∷ [])
