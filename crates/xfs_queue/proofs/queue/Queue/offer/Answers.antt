use Rattle.std.proofs.Common.{refl, sym}
use Rattle.xfs_queue.specs.Queue.{offered}
use Rattle.xfs_queue.proofs.Whole.{whole_offered}
use Rattle.xfs_queue.proofs.queue.Queue.offer.Goals as goal

pub invariant_of-self-2 : goal.invariant_of-self-2
invariant_of-self-2 g c =
    let q = c.self.inside.commands.items in
    let a = offered c.args.client c.args.id c.args.line c.args.timeout c.args.now c.args.job in
    rw (c.push_reserved.ensures.items, c.reserve.ensures.items)
    (whole_offered q a c.self.inside.deadlines c.add_entry.new.deadlines (sym (rw (sym c.self.view_is) at c.in-None.ensures)) refl c.self.invariant (rw c.entry.ensures at c.in-Ok.ensures.ok))
