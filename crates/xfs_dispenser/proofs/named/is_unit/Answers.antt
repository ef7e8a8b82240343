use Rattle.std.proofs.Common.{◌∙◌}
use Rattle.xfs_dispenser.proofs.UnitLaws.{unit-found}
use Rattle.xfs_dispenser.proofs.named.is_unit.Goals as goal

pub returns : goal.returns
returns c = c.is_some.ensures ∙ unit-found c.unit_of.result c.args.name.now c.unit_of.ensures.found c.unit_of.ensures.none
