use Rattle.xfs_evidence.proofs.Once.{one, taken, once}
use Rattle.xfs_evidence.proofs.PutOut.{put_out}
use Rattle.xfs_evidence.proofs.laws.every_evidence.Goals as goal

pub returns-clause-one : goal.returns-clause-one
returns-clause-one c = one

pub returns-clause-taken : goal.returns-clause-taken
returns-clause-taken c = taken

pub returns-clause-once : goal.returns-clause-once
returns-clause-once c = once

pub returns-clause-put_out : goal.returns-clause-put_out
returns-clause-put_out c = put_out
