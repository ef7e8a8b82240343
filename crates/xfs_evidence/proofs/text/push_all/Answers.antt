use Rattle.xfs_evidence.proofs.Spelling.{listed-some}
use Rattle.xfs_evidence.proofs.text.push_all.Goals as goal

pub returns-in-Some-clause-listed : goal.returns-in-Some-clause-listed
returns-in-Some-clause-listed c = rw c.in-Some.is (listed-some _ c.push_amounts.ensures.valid.low)
