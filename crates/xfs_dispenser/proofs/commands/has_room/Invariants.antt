use Rattle.std.proofs.Common.{ℕ, ◌+◌, ◌<◌}
use Rattle.xfs_base.specs.Counts.{at}
use Rattle.xfs_dispenser.specs.Begins.{UnitTakes}
use Rattle.xfs_dispenser.proofs.commands.has_room.Given as goal

abbrev pub invariant-loop-at : goal.invariant-loop-at
invariant-loop-at g l = (u : ℕ) → u < l.at → UnitTakes l.guard.state (u + 1) (at l.added u)
