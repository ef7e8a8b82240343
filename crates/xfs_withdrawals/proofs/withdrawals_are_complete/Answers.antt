use Rattle.xfs_withdrawals.proofs.Laws.{paid_out, put_out, whole_withdrawal}
use Rattle.xfs_withdrawals.proofs.withdrawals_are_complete.Goals as goal

pub returns-clause-dispense : goal.returns-clause-dispense
returns-clause-dispense c = λ t notes token d. paid_out c.dispenses_are_complete.ensures t notes token d

pub returns-clause-present : goal.returns-clause-present
returns-clause-present c = λ t d enough. put_out c.dispenses_are_complete.ensures t d enough

pub returns-clause-both : goal.returns-clause-both
returns-clause-both c = λ w notes token d. whole_withdrawal c.dispenses_are_complete.ensures w notes token d
