use Rattle.std.proofs.Common.{get_or, sym, ◌∙◌, ap, arith}
use Rattle.xfs_dispenser.proofs.PlanLaws.{loads-all, loads-end, loads-step}
use Rattle.xfs_dispenser.proofs.plan.loads.Goals as goal

pub loop-at-preserved : goal.loop-at-preserved
loop-at-preserved c =
    let i = c.loop-at.invariant in
    let p = c.push_load.ensures in
    record {
      long = i.long;
      few = omega (arith, i.few, p.len);
      listed = loads-step c.loop-at.at _ c.args.counts.now c.loop-at.parts.items c.push_load.new.parts.items _ (omega (arith, i.long, c.loop-at-test.true)) (ap (λ k. get_or c.args.counts.now k 0) (sym c.from.ensures)) p.items i.listed;
    }

pub returns : goal.returns
returns c = let i = c.loop-at.invariant in loads-end c.loop-at.at c.args.counts.now c.loop-at.parts.items _ (omega (arith, i.long, c.loop-at-test.false)) i.listed ∙ sym (loads-all c.args.counts.now)
