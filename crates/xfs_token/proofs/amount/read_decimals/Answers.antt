use Rattle.std.proofs.Common.{ap, arith, ◌*◌, ◌∙◌}
use Rattle.xfs_token.proofs.AmountReading.{filled_one, filled_two, filled_three}
use Rattle.xfs_token.proofs.amount.read_decimals.Goals as goal

pub returns-in-1-clause-value : goal.returns-in-1-clause-value
returns-in-1-clause-value c = ap (λ n. 100 * n) c.in_ok-number.ensures.value ∙ filled_one c.args.digits.now (omega arith)

pub returns-in-2-clause-value : goal.returns-in-2-clause-value
returns-in-2-clause-value c = ap (λ n. 10 * n) c.in_ok-number.ensures.value ∙ filled_two c.args.digits.now (omega arith)

pub returns-in_default-clause-value : goal.returns-in_default-clause-value
returns-in_default-clause-value c = c.in_ok-number.ensures.value ∙ filled_three c.args.digits.now (omega arith)
