use Rattle.std.proofs.Common.{get_or, sym, ◌∙◌, ap, arith}
use Rattle.xfs_dispenser.proofs.PlanLaws.{stacks-all, stacks-end, stacks-step}
use Rattle.xfs_dispenser.proofs.plan.stacks.Goals as goal

pub loop-at-preserved : goal.loop-at-preserved
loop-at-preserved c =
    let i = c.loop-at.invariant in
    let p = c.push_stack.ensures in
    record {
      long = i.long;
      few = omega (arith, i.few, p.len);
      listed = stacks-step c.args.issue c.loop-at.at _ c.args.counts.now c.loop-at.parts.items c.push_stack.new.parts.items _ (omega (arith, i.long, c.loop-at-test.true)) (ap (λ k. get_or c.args.counts.now k 0) (sym c.from.ensures)) p.items i.listed;
    }

pub returns : goal.returns
returns c = let i = c.loop-at.invariant in stacks-end c.args.issue c.loop-at.at c.args.counts.now c.loop-at.parts.items _ (omega (arith, i.long, c.loop-at-test.false)) i.listed ∙ sym (stacks-all c.args.issue c.args.counts.now)
