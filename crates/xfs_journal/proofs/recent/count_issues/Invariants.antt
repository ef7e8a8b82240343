use Rattle.std.proofs.Common.{◌≡◌, ◌+◌, ◌≤◌, take}
use Rattle.xfs_journal.specs.Journal.{next_issue}
use Rattle.xfs_journal.proofs.recent.count_issues.Given as goal

abbrev pub invariant-loop-i : goal.invariant-loop-i
invariant-loop-i l = (l.issues + 1 ≡ next_issue (take l.i l.records)) × (l.issues ≤ l.i)
