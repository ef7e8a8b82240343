use Rattle.std.proofs.Common.{◌≡◌, ◌+◌, ◌≤◌, ◌++◌, drop, length}
use Rattle.xfs_dispenser.proofs.PlanLaws.{stacks_from}
use Rattle.xfs_dispenser.proofs.plan.stacks.Given as goal

abbrev pub invariant-loop-at : goal.invariant-loop-at
invariant-loop-at l = record {
  long : length l.counts ≡ 8;
  few : length l.parts.items ≤ l.at;
  listed : l.parts.items ++ stacks_from l.issue (l.at + 1) (drop l.at l.counts) ≡ stacks_from l.issue 1 l.counts;
}
