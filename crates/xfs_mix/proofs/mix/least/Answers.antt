use Rattle.std.proofs.Common.{arith, ◌<◌, ◌*◌}
use Rattle.xfs_base.specs.Money.{value}
use Rattle.xfs_mix.proofs.First.{no_mix_past}
use Rattle.xfs_mix.proofs.mix.least.Goals as goal

pub returns-then-value-from-clause-nothing : goal.returns-then-value-from-clause-nothing
returns-then-value-from-clause-nothing c = λ e n is.
    let past : value c.args.units.now c.args.have.now c.args.currency < 1000 * c.args.amount = omega (arith, c.value.ensures.value, c.from.ensures, c.if-value-from.true) in
    no_mix_past c.args.units.now c.args.have.now c.args.currency c.args.amount past n is
