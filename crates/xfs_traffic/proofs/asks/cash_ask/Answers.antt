use Rattle.serde_json.specs.View.{view}
use Rattle.xfs_dispenser.specs.declared.ask.CashFail.TheVariants.{Shape}
use Rattle.xfs_traffic.proofs.AskLaws.{bad_cash}
use Rattle.xfs_traffic.proofs.asks.cash_ask.Goals as goal

pub returns-in-Err-Shape : goal.returns-in-Err-Shape
returns-in-Err-Shape c = bad_cash c.args.command (view c.args.payload.now) Shape (c.read_ask.ensures.shape (rw c.in-Err-Shape.field-0-is at c.in-Err-Shape.is))
