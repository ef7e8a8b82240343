use Rattle.std.proofs.Common.{◌≡◌, take}
use Rattle.xfs_audit.proofs.way.are_same.Given as goal

-- those before this one are the same
abbrev pub invariant-loop-i : goal.invariant-loop-i
invariant-loop-i l = take l.i l.one ≡ take l.i l.other
