use Rattle.std.proofs.Common.{drop}
use Rattle.xfs_audit.specs.Ways.{IsRest}
use Rattle.xfs_audit.proofs.conversing.converse.Given as goal

-- the frames from this one on are read
abbrev pub invariant-loop-i : goal.invariant-loop-i
invariant-loop-i l = IsRest l.pending l.texts (drop l.i l.frames) l.rest
