use Rattle.std.proofs.Common.{sym, ◌∙◌}
use Rattle.serde_json.specs.View.{view}
use Rattle.xfs_traffic.proofs.AskLaws.{bad_card}
use Rattle.xfs_traffic.proofs.asks.card_ask.Goals as goal

pub returns-in-Err : goal.returns-in-Err
returns-in-Err c = bad_card c.args.command (view c.args.payload.now) _ (sym c.read_card.ensures ∙ c.in-Err.is)
