use Rattle.xfs_traffic.proofs.Places.{rising_either}
use Rattle.xfs_traffic.proofs.connections.Connections.announce.Goals as goal

pub invariant_of-self : goal.invariant_of-self
invariant_of-self c = rising_either c.args.service c.args.frame.now c.self.inside.list.items c.announce.new.connections.items c.announce.result c.announce.ensures.ok c.announce.ensures.err c.self.invariant
