use Rattle.std.proofs.Common.{List, subst}
use Rattle.xfs_queue.specs.declared.deadlines.Entry.{Entry}
use Rattle.xfs_queue.specs.Deadlines.{IsPlace}
use Rattle.xfs_queue.proofs.InOrder.{in_order_after_insert}
use Rattle.xfs_queue.proofs.Index.{index_after_insert}
use Rattle.xfs_queue.proofs.deadlines.Deadlines.add.Goals as goal

pub invariant_of-self-2 : goal.invariant_of-self-2
invariant_of-self-2 c =
    let place = subst (λ (xs : List Entry). IsPlace xs c.args.entry.deadline c.place_of-at.result) c.deref.ensures.value c.place_of-at.ensures in
    rw c.in_ok-insert.ensures.items (in_order_after_insert _ _ _ c.self.invariant place)

pub returns-clause-ok : goal.returns-clause-ok
returns-clause-ok c = λ es is. rw c.in_ok-insert.ensures.items (index_after_insert _ es _ c.args.entry (rw (← c.self.view_is) at is))
