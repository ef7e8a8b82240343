use Rattle.xfs_script.proofs.LastLaws.{last-said}
use Rattle.xfs_script.proofs.last_line.write_last_line.Goals as goal

pub returns-clause-written : goal.returns-clause-written
returns-clause-written g c = last-said _ _ _ _ _ _ c.write_parts.ensures.ok c.write_parts.ensures.err c.write_parts.ensures.cause
