use Rattle.std.proofs.Common.{refl, sym}
use Rattle.xfs_audit.proofs.Resting.{over-more}
use Rattle.xfs_audit.proofs.rest.has_over.Goals as goal

pub returns-then-is_over : goal.returns-then-is_over
returns-then-is_over c = (
  λ _. record {
    way = c.way-item.result;
    there = (c.loop-way.way-index, c.loop-way-test.true, sym c.way-item.is);
    over = c.is_over.ensures.0 c.if-is_over.true;
  },
  λ _. refl,
)

pub loop-way-preserved : goal.loop-way-preserved
loop-way-preserved c = over-more c.args.ways.now c.loop-way.way-index c.way-item.result c.loop-way-test.true (sym c.way-item.is) (λ over. let yes = c.is_over.ensures.1 over in let no = c.if-is_over.false in cc) c.loop-way.invariant
