-- What the queues end as, where a `&mut` to that of a service is returned.
use Rattle.std.specs.Prelude.{List}
use Rattle.std.specs.Borrow.{Lends, Fml, MutBor}
use Rattle.xfs_base.specs.declared.moment.Service.{Service}
use Rattle.xfs_model.specs.State.{Job, Queues, with_queue}
use Rattle.xfs_queue.specs.declared.command.Command.{Command}
use Rattle.xfs_traffic.specs.contracts.queues.Queues.{the_row}
use Rattle.xfs_traffic.specs.contracts.job.Job as job
use Rattle.xfs_queue.specs.contracts.queue.Queue as queue

abbrev pub LendsQueue : MutBor Queues → Service → MutBor (List (Command Job)) → Fml
LendsQueue s service r = Lends the_row (queue.the_row job.the_row) s r (with_queue s.now service)
