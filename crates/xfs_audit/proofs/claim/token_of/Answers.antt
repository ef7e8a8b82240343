use Rattle.std.proofs.Common.{sym, arith}
use Rattle.xfs_audit.proofs.Findings.{found-start, bound-here, ended-here}
use Rattle.xfs_audit.proofs.claim.token_of.Goals as goal

pub loop-place-init : goal.loop-place-init
loop-place-init c = found-start c.args.records.now c.args.issue c.requires

pub returns-in-Bind : goal.returns-in-Bind
returns-in-Bind c = sym (bound-here c.args.records.now c.args.issue c.loop-place.place c.index-records-place.result c.in-Bind.token c.loop-place-test.true c.index-records-place.is (omega arith) c.loop-place.invariant c.in-Bind.is)

pub returns-then-is_mark : goal.returns-then-is_mark
returns-then-is_mark c = sym (ended-here c.args.records.now c.args.issue c.loop-place.place c.index-records-place.result c.loop-place-test.true c.index-records-place.is (omega arith) c.loop-place.invariant (cc))
