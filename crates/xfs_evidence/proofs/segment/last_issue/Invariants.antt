use Rattle.std.proofs.Common.{◌≡◌, ◌≤◌, false, length, drop}
use Rattle.xfs_guard.specs.Segment.{has_issue}
use Rattle.xfs_evidence.proofs.segment.last_issue.Given as goal

-- behind here is no Issue
abbrev pub invariant-back : goal.invariant-back
invariant-back l = record {
  within : l.n ≤ length l.records;
  none : has_issue (drop l.n l.records) ≡ false;
}

abbrev pub decreases-back : goal.decreases-back
decreases-back l = l.n
