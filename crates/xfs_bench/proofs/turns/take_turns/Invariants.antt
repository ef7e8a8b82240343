use Rattle.std.proofs.Common.{◌≡◌}
use Rattle.xfs_bench.proofs.turns.take_turns.Given as goal

-- the seat is of this lock
abbrev pub invariant-loop : goal.invariant-loop
invariant-loop g l = l.seat.lock ≡ l.turn
