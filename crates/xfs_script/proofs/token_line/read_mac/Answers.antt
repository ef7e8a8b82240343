use Rattle.std.proofs.Common.{Err, ap}
use Rattle.xfs_script.proofs.Faults.{passed_on}
use Rattle.xfs_script.proofs.token_line.read_mac.Goals as goal

pub returns-in_err-key-clause-not_a_line : goal.returns-in_err-key-clause-not_a_line
returns-in_err-key-clause-not_a_line c = λ e a b x y.
    c.in_err-key.ensures.not_a_line (ap (λ f. Err f) (passed_on c.from_residual.result c.in_err-key.field-0.0 c.from_residual.ensures.1 e)) a x

pub returns-in_err-message-clause-not_a_line : goal.returns-in_err-message-clause-not_a_line
returns-in_err-message-clause-not_a_line c = λ e a b x y.
    c.in_err-message.ensures.not_a_line (ap (λ f. Err f) (passed_on c.from_residual-in_err-message.result c.in_err-message.field-0.0 c.from_residual-in_err-message.ensures.1 e)) b y
