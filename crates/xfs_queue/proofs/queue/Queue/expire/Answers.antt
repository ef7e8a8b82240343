use Rattle.std.proofs.Common.{ap, sym}
use Rattle.xfs_queue.specs.Commands.{ticket_of}
use Rattle.std.specs.Option.{option_map}
use Rattle.xfs_queue.proofs.Entries.{none_due_yet, none_due_at_all}
use Rattle.xfs_queue.proofs.queue.Queue.expire.Goals as goal

pub returns-in-None-clause-found : goal.returns-in-None-clause-found
returns-in-None-clause-found g c =
    rw (← c.self.view_is) (sym (ap (option_map ticket_of) (none_due_at_all c.self.inside.commands.items c.self.inside.deadlines c.args.now c.self.invariant.1 c.in-None.ensures)))

pub returns-in-Some-clause-found : goal.returns-in-Some-clause-found
returns-in-Some-clause-found g c =
    rw (← c.self.view_is) (sym (ap (option_map ticket_of) (none_due_yet c.self.inside.commands.items c.self.inside.deadlines c.in-Some.first c.args.now c.self.invariant.1 c.in-Some.ensures c.if-first-now.true)))
