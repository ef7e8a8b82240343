use Rattle.std.proofs.Common.{ℕ, ◌<◌}
use Rattle.xfs_audit.specs.Flow.{Balances}
use Rattle.xfs_audit.proofs.places.Flow.joins.Given as goal

abbrev pub invariant-loop-unit : goal.invariant-loop-unit
invariant-loop-unit l = (u : ℕ) → u < l.unit → Balances u l.from l.self l.to
