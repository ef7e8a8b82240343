use Rattle.std.specs.Prelude.{is_some}
use Rattle.xfs_base.specs.Values.{IsCurrency}
use Rattle.xfs_token.specs.Amounts.{is_currency}
use Rattle.xfs_token.proofs.AmountReading.{same_tests, is_currency_from, is_currency_to}
use Rattle.xfs_token.proofs.amount.read_currency.Goals as goal

pub returns-clause-found : goal.returns-clause-found
returns-clause-found c =
    same_tests (is_some c.new.result) (is_currency c.args.letters.now) (IsCurrency c.args.letters.now) c.new.ensures.valid (is_currency_to c.args.letters.now) (is_currency_from c.args.letters.now)
