use Rattle.xfs_evidence.proofs.reading.told_onto.Goals as goal

pub with_amount-requires-clause-small : goal.with_amount-requires-clause-small
with_amount-requires-clause-small c = c.in_ok-currency.ensures.small
