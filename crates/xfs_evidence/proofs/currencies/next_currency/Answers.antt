use Rattle.std.proofs.Common.{take, arith}
use Rattle.std.proofs.lemmas.List.{take_all}
use Rattle.xfs_evidence.specs.Sums.{IsNextCurrency}
use Rattle.xfs_evidence.proofs.Summing.{next-step}
use Rattle.xfs_evidence.proofs.currencies.next_currency.Goals as goal

pub loop-i-preserved : goal.loop-i-preserved
loop-i-preserved c = rw c.nearer-first.ensures (next-step c.kinds-kinds.result.now c.loop-i.i c.index-kinds-i.result _ _ c.loop-i-test.true c.loop-i.invariant)

pub returns : goal.returns
returns c =
    let all = take_all c.loop-i.i c.kinds-kinds.result.now (omega (arith, c.loop-i-test.false)) in
    let last : IsNextCurrency (take c.loop-i.i c.kinds-kinds.result.now) c.args.after.now c.loop-i.first = c.loop-i.invariant in
    rw (← c.kinds-kinds.ensures.now) (rw all at last)
