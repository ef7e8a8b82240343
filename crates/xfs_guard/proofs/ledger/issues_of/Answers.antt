use Rattle.std.proofs.Common.{arith}
use Rattle.xfs_journal.proofs.JournalLaws.{issues_in-next}
use Rattle.xfs_guard.proofs.LedgerLaws.{issues-of}
use Rattle.xfs_journal.proofs.BaseLaws.{issues-le}
use Rattle.xfs_guard.proofs.ledger.issues_of.Goals as goal

pub overflow_add-result : goal.overflow_add-result
overflow_add-result g c =
    let all = issues-of c.args.journal.now.records c.args.journal.now.base _ _ _ c.issues.ensures c.records.ensures c.count_issues.ensures.counted in
    omega (arith, all, issues-le c.args.journal.now.records, c.base-few.ensures.few)

pub returns-clause-issues : goal.returns-clause-issues
returns-clause-issues g c =
    let all = issues-of c.args.journal.now.records c.args.journal.now.base _ _ _ c.issues.ensures c.records.ensures c.count_issues.ensures.counted in
    rw all (issues_in-next c.args.journal.now.records)

pub returns-clause-counted : goal.returns-clause-counted
returns-clause-counted g c = issues-of c.args.journal.now.records c.args.journal.now.base _ _ _ c.issues.ensures c.records.ensures c.count_issues.ensures.counted

pub returns-clause-few : goal.returns-clause-few
returns-clause-few g c =
    let all = issues-of c.args.journal.now.records c.args.journal.now.base _ _ _ c.issues.ensures c.records.ensures c.count_issues.ensures.counted in
    rw all (issues-le c.args.journal.now.records)
