-- What a queue ends as, where a `&mut` to a job is returned.
use Rattle.std.specs.Prelude.{List}
use Rattle.std.specs.Borrow.{Lends, Fml, RattleType, MutBor}
use Rattle.xfs_queue.specs.declared.command.Command.{Command}
use Rattle.xfs_queue.specs.declared.command.Ticket.{Ticket}
use Rattle.xfs_queue.specs.Queue.{with_job}
use Rattle.xfs_queue.specs.contracts.queue.Queue.{the_row}

abbrev pub LendsJob : (J : RattleType) → MutBor (List (Command J.Denot)) → Ticket → MutBor J.Denot → Fml
LendsJob J s t r = Lends (the_row J) J s r (with_job s.now t)
