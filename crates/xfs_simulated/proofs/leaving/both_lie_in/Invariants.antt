use Rattle.std.proofs.Common.{ℕ, ◌+◌, ◌<◌, ◌≤◌}
use Rattle.xfs_base.specs.Counts.{at}
use Rattle.xfs_simulated.proofs.leaving.both_lie_in.Given as goal

abbrev pub invariant-loop-i : goal.invariant-loop-i
invariant-loop-i l = (u : ℕ) → u < l.i → at l.moved u + at l.diverted u ≤ at l.source u
