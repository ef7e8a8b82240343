use Rattle.std.proofs.Common.{◌+◌, ◌==◌, nat_le, not, sym, ◌∙◌}
use Rattle.xfs_dispenser.specs.Seen.{seen}
use Rattle.xfs_model.specs.Guards.{is_fit, is_live}
use Rattle.xfs_machine.proofs.LifeLaws.{none_as, not_over, over_as}
use Rattle.xfs_machine.proofs.life.is_life_over.Goals as goal

pub returns-then-not-is_long_ago : goal.returns-then-not-is_long_ago
returns-then-not-is_long_ago g c = λ s.
    let now = seen g.D.Disk c.args.dispenser.now.guard in
    not_over (is_live now) (not (c.args.dispenser.now.life == 0)) (nat_le (c.args.dispenser.now.issued.0 + c.args.dispenser.now.life) c.args.now.0) (is_fit now) (sym c.is_long_ago.ensures ∙ c.if-not-is_long_ago.true)

pub returns : goal.returns
returns g c = λ s.
    let now = seen g.D.Disk c.args.dispenser.now.guard in
    over_as (is_live now) (not (c.args.dispenser.now.life == 0)) (nat_le (c.args.dispenser.now.issued.0 + c.args.dispenser.now.life) c.args.now.0) (is_fit now) c.is_some-lives.result c.is_none-fits.result
    (sym c.is_long_ago.ensures ∙ c.if-not-is_long_ago.false) (rw c.live.ensures at c.is_some-lives.ensures) (none_as _ c.is_none-fits.result (rw c.unfit.ensures.first at c.is_none-fits.ensures))
