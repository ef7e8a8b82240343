use Rattle.std.proofs.Common.{sym, ◌∙◌, arith}
use Rattle.xfs_audit.proofs.Counting.{take-same}
use Rattle.xfs_audit.proofs.way.are_same.Goals as goal

pub loop-i-preserved : goal.loop-i-preserved
loop-i-preserved c =
    take-same c.args.one.now c.args.other.now c.loop-i.i c.index-one-i.result c.index-other-i.result (omega arith) (omega arith) (sym c.index-one-i.is) (sym c.index-other-i.is) (sym c.is_same.ensures ∙ c.if-not-is_same.false) c.loop-i.invariant
