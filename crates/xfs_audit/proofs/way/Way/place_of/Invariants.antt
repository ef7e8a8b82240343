use Rattle.std.proofs.Common.{◌≡◌, take}
use Rattle.xfs_audit.specs.Ways.{times}
use Rattle.xfs_audit.proofs.way.Way.place_of.Given as goal

-- none before this one is like it
abbrev pub invariant-loop-i : goal.invariant-loop-i
invariant-loop-i l = times l.asked (take l.i l.self.due.items) ≡ 0
