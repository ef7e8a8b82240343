use Rattle.xfs_mix.proofs.Sixty.{many_past, best_of_sixty}
use Rattle.xfs_mix.proofs.mix.least_of_sixty.Goals as goal

pub returns-then-amount-greatest_value : goal.returns-then-amount-greatest_value
returns-then-amount-greatest_value c =
    many_past c.args.kinds.now c.args.have.now c.args.currency c.args.amount c.greatest_value.result c.greatest_value.ensures.all c.if-amount-greatest_value.true

pub returns : goal.returns
returns c =
    rw c.without_many.ensures (best_of_sixty c.args.kinds.now c.args.have.now c.at_most_sixty.result c.args.currency c.args.amount c.in_ok-mix.mix c.at_most_sixty.ensures c.in_ok-mix.ensures)
