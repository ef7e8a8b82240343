use Rattle.std.proofs.Common.{◌≤◌}
use Rattle.xfs_bench.proofs.work.right_rounds.Given as goal

abbrev pub invariant-loop : goal.invariant-loop
invariant-loop g l = l.right ≤ l.counter
