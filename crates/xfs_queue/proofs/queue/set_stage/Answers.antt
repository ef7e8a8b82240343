use Rattle.xfs_queue.proofs.Places.{written}
use Rattle.xfs_queue.proofs.queue.set_stage.Goals as goal

pub returns : goal.returns
returns g c =
    let q = c.args.commands.now.items in
    written c.args.ticket (λ a. record a { stage = c.args.stage }) q c.place-at.result c.index_mut.result.now c.requires.ids (rw c.deref.ensures.value at c.place-at.ensures) c.index_mut.ensures.value
