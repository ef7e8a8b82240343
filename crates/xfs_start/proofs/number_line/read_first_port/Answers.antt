use Rattle.std.proofs.Common.{ap, ◌∙◌, arith}
use Rattle.std.specs.Prelude.{decimal}
use Rattle.xfs_start.proofs.NumberLaws.{no_nought}
use Rattle.xfs_start.proofs.number_line.read_first_port.Goals as goal

pub returns-then-first-eq0-clause-none : goal.returns-then-first-eq0-clause-none
returns-then-first-eq0-clause-none c =
    λ first low high digits. no_nought c.args.field.now (c.in_ok-first.ensures.digits ∙ ap decimal c.if-first-eq0.true) first low (omega (arith, high)) digits
