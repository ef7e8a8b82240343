use Rattle.std.proofs.Common.{Some, None}
use Rattle.xfs_queue.proofs.Entries.{earliest_is}
use Rattle.xfs_queue.proofs.queue.Queue.earliest.Goals as goal

pub returns-in-Some : goal.returns-in-Some
returns-in-Some g c = rw (← c.self.view_is) (earliest_is c.self.inside.commands.items c.self.inside.deadlines (Some c.in-Some.entry) c.self.invariant.1 c.in-Some.ensures)

pub returns-in-None : goal.returns-in-None
returns-in-None g c = rw (← c.self.view_is) (earliest_is c.self.inside.commands.items c.self.inside.deadlines None c.self.invariant.1 c.in-None.ensures)
