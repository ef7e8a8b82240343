use Rattle.xfs_audit.proofs.Ends.{end-more, begins-here}
use Rattle.xfs_audit.proofs.told.from_number.Goals as goal

pub returns-then-not-is_below-clause-begins : goal.returns-then-not-is_below-clause-begins
returns-then-not-is_below-clause-begins c = begins-here c.args.number c.args.motions.now c.loop-i.i _ c.loop-i-test.true (λ low. let no = (c.if-not-is_below.ensures).1 low in cc)

pub loop-i-preserved : goal.loop-i-preserved
loop-i-preserved c =
    let more = end-more c.args.number c.args.motions.now c.args.motions.now c.loop-i.i _ c.loop-i-test.true c.loop-i.invariant.end c.loop-i.invariant.rises ((c.if-not-is_below.ensures).0 (cc)) in
    record { end = more.0; rises = more.1 }
