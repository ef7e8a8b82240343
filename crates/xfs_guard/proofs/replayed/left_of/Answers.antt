use Rattle.std.proofs.Common.{ℕ, ◌-◌, List, ap, arith}
use Rattle.xfs_base.specs.Counts.{at}
use Rattle.xfs_guard.proofs.ReplayLaws.{eight}
use Rattle.xfs_guard.proofs.replayed.left_of.Goals as goal

pub returns : goal.returns
returns c =
    let left : (u : ℕ) → ℕ = λ u. at c.args.counts.now u - at c.args.gone.now u in
    ap (λ (xs : List ℕ). record { 0 = xs }) (eight left c.loop-i.left c.loop-i.invariant.long (λ u lt. c.loop-i.invariant.done u (omega (arith, c.loop-i.auto.i-end, lt))))
