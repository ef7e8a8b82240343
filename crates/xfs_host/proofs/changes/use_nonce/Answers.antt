use Rattle.std.proofs.Common.{Some}
use Rattle.xfs_host.proofs.Maps.{tx_at-updates}
use Rattle.xfs_host.proofs.changes.use_nonce.Goals as goal

pub returns-clause-used : goal.returns-clause-used
returns-clause-used c = tx_at-updates c.args.nonce.items c.args.nonces.now c.insert.new.self (Some c.args.tx) c.in_ok-insert.ensures.updates
