use Rattle.serde_json.specs.View.{view}
use Rattle.xfs_traffic.proofs.asks.ask_of.Goals as goal

pub returns-in-Nonce : goal.returns-in-Nonce
returns-in-Nonce c = rw (c.in-Nonce.is) (c.nonce_ask.ensures (view c.args.payload.now))
