use Rattle.std.proofs.Common.{◌≡◌, ◌≤◌, ◌-◌, length, take}
use Rattle.xfs_journal.proofs.differ.common.Given as goal

abbrev pub invariant-loop-count : goal.invariant-loop-count
invariant-loop-count l = record {
  within : (l.count ≤ length l.found) × (l.count ≤ length l.kept);
  same : take l.count l.found ≡ take l.count l.kept;
}

abbrev pub decreases-loop-count : goal.decreases-loop-count
decreases-loop-count l = length l.found - l.count
