use Rattle.std.specs.Prelude.{nat_le}
use Rattle.std.proofs.lemmas.Bool.{and_parts, leb-true}
use Rattle.xfs_token.specs.Amounts.{is_currency}
use Rattle.xfs_token.proofs.AmountBounds.{payable-read_amount}
use Rattle.xfs_evidence.proofs.reading.told_amount.Goals as goal

pub returns-clause-small : goal.returns-clause-small
returns-clause-small c =
    let n = c.in_ok-currency.amount.0 in
    let payable = rw c.in_ok-currency.ensures.found at (payable-read_amount c.args.text.now) in
    leb-true n 999999999999 (and_parts (is_currency c.in_ok-currency.currency) (nat_le n 999999999999) payable).1
