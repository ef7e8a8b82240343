use Rattle.xfs_mix.proofs.First.{first_ok}
use Rattle.xfs_mix.proofs.mix.first_table.Goals as goal

pub returns-clause-table : goal.returns-clause-table
returns-clause-table c = first_ok c.args.kinds.now c.args.currency _ c.only_first.result c.only_first.ensures
