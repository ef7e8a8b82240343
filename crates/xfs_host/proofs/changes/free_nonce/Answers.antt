use Rattle.std.proofs.Common.{None}
use Rattle.xfs_host.proofs.Maps.{tx_at-updates}
use Rattle.xfs_host.proofs.changes.free_nonce.Goals as goal

pub returns : goal.returns
returns c = tx_at-updates c.args.nonce.now c.args.nonces.now c.remove.new.self None c.remove.ensures.updates
