use Rattle.xfs_units.proofs.UnitLaws.{AreAdded-filled, AllAdded-from}
use Rattle.xfs_units.proofs.added.are_added.Goals as goal

pub returns-then-not-is_empty : goal.returns-then-not-is_empty
returns-then-not-is_empty c = (
  λ all. AreAdded-filled c.args.units.now.entries c.is_empty.result c.if-not-is_empty.true c.is_empty.ensures.1 (c.are_all_added.ensures.0 all),
  λ added. c.are_all_added.ensures.1 (AllAdded-from c.args.units.now.entries added),
)
