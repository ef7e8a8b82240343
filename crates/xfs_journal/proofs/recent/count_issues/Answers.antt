use Rattle.std.proofs.Common.{arith}
use Rattle.std.proofs.lemmas.List.{take_all}
use Rattle.xfs_journal.proofs.StartLaws.{counts-issues}
use Rattle.xfs_journal.proofs.recent.count_issues.Goals as goal

pub returns-clause-counted : goal.returns-clause-counted
returns-clause-counted c =
    let all = take_all c.loop-i.i c.args.records.now (omega (arith, c.loop-i-test.false)) in
    counts-issues c.args.records.now c.loop-i.issues (rw all at c.loop-i.invariant.0)
