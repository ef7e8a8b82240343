use Rattle.std.proofs.Common.{ℕ, ◌<◌, ◌≤◌}
use Rattle.xfs_base.specs.Counts.{at}
use Rattle.xfs_mech.proofs.counts.lies_in.Given as goal

abbrev pub invariant-loop-i : goal.invariant-loop-i
invariant-loop-i l = (u : ℕ) → u < l.i → at l.a u ≤ at l.b u
