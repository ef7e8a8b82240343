use Rattle.std.proofs.Common.{◌≡◌, ◌+◌, ◌≤◌, ◌++◌, drop, length}
use Rattle.xfs_dispenser.proofs.PlanLaws.{loads_from}
use Rattle.xfs_dispenser.proofs.plan.loads.Given as goal

abbrev pub invariant-loop-at : goal.invariant-loop-at
invariant-loop-at l = record {
  long : length l.counts ≡ 8;
  few : length l.parts.items ≤ l.at + l.at;
  listed : l.parts.items ++ loads_from (l.at + 1) (drop l.at l.counts) ≡ loads_from 1 l.counts;
}
