use Rattle.std.proofs.Common.{◌∙◌}
use Rattle.xfs_queue.proofs.InOrder.{first_least}
use Rattle.xfs_queue.proofs.deadlines.Deadlines.first.Goals as goal

pub returns : goal.returns
returns c =
    rw (← c.self.view_is) (first_least c.self.inside.entries.items _ (rw (← c.deref.ensures.value) (c.copied.ensures ∙ c.first.ensures.value)) c.self.invariant)
