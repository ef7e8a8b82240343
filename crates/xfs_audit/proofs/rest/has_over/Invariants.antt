use Rattle.std.proofs.Common.{take}
use Rattle.xfs_audit.specs.Ways.{HasOver}
use Rattle.xfs_audit.proofs.rest.has_over.Given as goal

-- none before this one is over
abbrev pub invariant-loop-way : goal.invariant-loop-way
invariant-loop-way l = HasOver (take l.way-index l.ways) → ⊥
