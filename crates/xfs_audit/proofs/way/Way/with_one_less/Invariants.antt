use Rattle.std.proofs.Common.{◌≡◌, take}
use Rattle.xfs_audit.proofs.way.Way.with_one_less.Given as goal

-- those before this one are copied
abbrev pub invariant-loop-asked : goal.invariant-loop-asked
invariant-loop-asked l = l.due.items ≡ take l.asked-index l.self.due.items
