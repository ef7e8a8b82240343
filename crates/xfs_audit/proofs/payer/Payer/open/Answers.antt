use Rattle.xfs_audit.proofs.Choices.{none-of}
use Rattle.xfs_audit.proofs.PayingLaws.{made, under-zero}
use Rattle.xfs_audit.proofs.payer.Payer.open.Goals as goal

pub returns-in-Some-clause-same : goal.returns-in-Some-clause-same
returns-in-Some-clause-same c = λ units done paying. made c.args.key.now units c.args.records.now done c.args.self.now c.args.issue c.in-Some.claim paying (none-of _ c.if-is_some.ensures) c.requires.live (rw c.in-Some.is at c.in_ok-claim.ensures.claim)

pub returns-in-Some-clause-small : goal.returns-in-Some-clause-small
returns-in-Some-clause-small c = under-zero c.in-Some.claim (rw c.in-Some.is at c.in_ok-claim.ensures.fresh)

pub returns-in-None-clause-none : goal.returns-in-None-clause-none
returns-in-None-clause-none c = rw c.in-None.is at c.in_ok-claim.ensures.claim
