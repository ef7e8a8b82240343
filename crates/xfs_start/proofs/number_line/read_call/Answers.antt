use Rattle.std.proofs.Common.{ap, ◌∙◌, arith}
use Rattle.std.specs.Prelude.{decimal}
use Rattle.xfs_start.proofs.NumberLaws.{no_nought}
use Rattle.xfs_start.proofs.number_line.read_call.Goals as goal

pub returns-then-call-eq0-clause-none : goal.returns-then-call-eq0-clause-none
returns-then-call-eq0-clause-none c =
    λ call is. (let high = is.high in no_nought c.args.field.now (c.in_ok-call.ensures.digits ∙ ap decimal c.if-call-eq0.true) call is.low (omega (arith, high)) is.digits)
