use Rattle.std.proofs.Common.{arith, length-drop}
use Rattle.xfs_base.proofs.Written.{Appends-tail, Appends-prefix, tail_is}
use Rattle.xfs_base.proofs.stream.write_all.Goals as goal

pub loop-at-preserved : goal.loop-at-preserved
loop-at-preserved g c = record {
  within = grind (arith, tail_is c.loop-at.at c.args.bytes.now, length-drop c.loop-at.at c.args.bytes.now, c.in-Ok.ensures.bound);
  taken = Appends-tail (g.K.Sink.held c.args.sink.now) (g.K.Sink.held c.loop-at.sink) (g.K.Sink.held c.write.new.self) c.args.bytes.now c.loop-at.at c.in-Ok.n c.loop-at.invariant.taken c.in-Ok.ensures.bytes;
  later = omega (arith, c.in-Ok.ensures.cause);
}

pub returns-in-Err-clause-err : goal.returns-in-Err-clause-err
returns-in-Err-clause-err g c =
    Appends-prefix (g.K.Sink.held c.args.sink.now) (g.K.Sink.held c.loop-at.sink) (g.K.Sink.held c.write.new.self) c.args.bytes.now c.loop-at.at c.loop-at.invariant.taken c.in-Err.ensures.bytes
