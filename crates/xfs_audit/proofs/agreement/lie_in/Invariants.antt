use Rattle.std.proofs.Common.{ℕ, ◌+◌, ◌<◌, ◌≤◌}
use Rattle.xfs_base.specs.Counts.{at}
use Rattle.xfs_audit.proofs.agreement.lie_in.Given as goal

abbrev pub invariant-loop-i : goal.invariant-loop-i
invariant-loop-i l = (u : ℕ) → u < l.i → at l.moved u + at l.diverted u ≤ at l.asked u
