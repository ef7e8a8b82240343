use Rattle.std.proofs.Common.{◌≡◌}
use Rattle.xfs_acceptance_loops.proofs.turn_calls.turns.Given as goal

-- the seat is of this lock
abbrev pub invariant-loop-number : goal.invariant-loop-number
invariant-loop-number g l = l.seat.lock ≡ l.turn
