use Rattle.xfs_queue.proofs.Whole.{whole_finished}
use Rattle.xfs_queue.proofs.queue.Queue.finish.Goals as goal

pub invariant_of-self : goal.invariant_of-self
invariant_of-self g c =
    rw (c.set_stage.ensures, c.remove.ensures) (whole_finished c.args.ticket c.self.inside.commands.items c.self.inside.deadlines c.self.invariant)
