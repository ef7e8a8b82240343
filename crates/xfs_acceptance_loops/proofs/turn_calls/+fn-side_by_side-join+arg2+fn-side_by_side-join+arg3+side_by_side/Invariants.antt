use Rattle.std.proofs.Common.{◌+◌, ◌*◌}
use Rattle.xfs_acceptance_loops.proofs.turn_calls.+fn-side_by_side-join+arg2+fn-side_by_side-join+arg3+side_by_side.Given as goal

abbrev pub decreases-join+arg2 : goal.decreases-join+arg2
decreases-join+arg2 g l = 2 * l.half + 1

abbrev pub decreases-join+arg3 : goal.decreases-join+arg3
decreases-join+arg3 g l = 2 * l.half + 1

abbrev pub decreases-side_by_side : goal.decreases-side_by_side
decreases-side_by_side g l = 2 * l.threads
