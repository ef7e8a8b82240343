use Rattle.std.proofs.Common.{Err, ap}
use Rattle.xfs_script.proofs.Faults.{passed_on}
use Rattle.xfs_script.proofs.FieldLists.{no_mac}
use Rattle.xfs_script.proofs.token_line.read_fields.Goals as goal

pub returns-in_err-key-clause-no_mac : goal.returns-in_err-key-clause-no_mac
returns-in_err-key-clause-no_mac c = λ e.
    no_mac c.args.text.now c.in-Some.verb.now c.in-Some.first.now c.in-Some.second.now c.in-Some.ensures.found
    (c.in_err-key.ensures.not_a_line (ap (λ f. Err f) (passed_on c.from_residual-in_err-key.result c.in_err-key.field-0.0 c.from_residual-in_err-key.ensures.1 e)))
