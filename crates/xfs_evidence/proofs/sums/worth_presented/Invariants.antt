use Rattle.std.proofs.Common.{◌≡◌, take}
use Rattle.xfs_evidence.proofs.Valued.{paid_to, present_last}
use Rattle.xfs_evidence.proofs.sums.worth_presented.Given as goal

-- what the records so far tell
abbrev pub invariant-loop-i : goal.invariant-loop-i
invariant-loop-i l = record {
  worth : l.worth ≡ (paid_to l.units l.currency (take l.i l.segment)).worth;
  last : l.ordered ≡ present_last (paid_to l.units l.currency (take l.i l.segment)).last;
}
