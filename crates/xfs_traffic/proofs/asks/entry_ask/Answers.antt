use Rattle.serde_json.specs.View.{view}
use Rattle.xfs_traffic.proofs.AskLaws.{bad_entry}
use Rattle.xfs_traffic.proofs.asks.entry_ask.Goals as goal

pub returns-in-Err : goal.returns-in-Err
returns-in-Err c = bad_entry (view c.args.payload.now) c.in-Err.ensures.shape
