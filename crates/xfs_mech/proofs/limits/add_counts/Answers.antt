use Rattle.std.proofs.Common.{arith}
use Rattle.std.proofs.lemmas.Grind.{common_steps}
use Rattle.xfs_mech.proofs.CountLaws.{plus-done, plus-left, plus-bound}
use Rattle.xfs_mech.proofs.limits.add_counts.Goals as goal

pub loop-unit-preserved : goal.loop-unit-preserved
loop-unit-preserved c = record {
  long = grind (arith, common_steps, c.loop-unit.invariant.long);
  done = λ u lt. rw c.from.ensures (plus-done c.loop-unit.totals c.args.totals c.args.counts.now.0 c.loop-unit.unit u (omega (arith, c.loop-unit.invariant.long)) c.loop-unit.invariant.done c.loop-unit.invariant.left lt);
  left = λ u le. plus-left c.loop-unit.totals c.args.totals c.loop-unit.unit u _ c.loop-unit.invariant.left le;
  bound = λ u. plus-bound c.loop-unit.totals c.args.totals c.loop-unit.unit u _ (omega (arith, c.loop-unit.invariant.long)) c.loop-unit.invariant.left c.loop-unit.invariant.bound (grind (arith, common_steps));
}
