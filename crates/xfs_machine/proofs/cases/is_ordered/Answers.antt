use Rattle.xfs_machine.proofs.ChosenLaws.{ordered_is}
use Rattle.xfs_machine.proofs.cases.is_ordered.Goals as goal

pub returns-clause-open : goal.returns-clause-open
returns-clause-open g c = ordered_is c.ordering.result c.args.guard.now.state.open_order c.ordering.ensures.open.0 c.ordering.ensures.open.1
