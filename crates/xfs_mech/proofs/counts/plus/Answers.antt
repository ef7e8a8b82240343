use Rattle.std.proofs.Common.{arith}
use Rattle.std.proofs.lemmas.Grind.{common_steps}
use Rattle.xfs_mech.proofs.CountLaws.{plus-done, plus-left}
use Rattle.xfs_mech.proofs.counts.plus.Goals as goal

pub loop-i-preserved : goal.loop-i-preserved
loop-i-preserved c = record {
  long = grind (arith, common_steps, c.loop-i.invariant.long);
  done = λ u lt. plus-done c.loop-i.sum c.args.a.now.0 c.args.b.now.0 c.loop-i.i u (omega (arith, c.loop-i.invariant.long)) c.loop-i.invariant.done c.loop-i.invariant.left lt;
  left = λ u le. plus-left c.loop-i.sum c.args.a.now.0 c.loop-i.i u _ c.loop-i.invariant.left le;
}
