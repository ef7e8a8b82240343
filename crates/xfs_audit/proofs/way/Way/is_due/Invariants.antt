use Rattle.std.proofs.Common.{take}
use Rattle.xfs_audit.specs.Ways.{HasId}
use Rattle.xfs_audit.proofs.way.Way.is_due.Given as goal

-- none before this one has the id
abbrev pub invariant-loop-asked : goal.invariant-loop-asked
invariant-loop-asked l = HasId l.id (take l.asked-index l.self.due.items) → ⊥
