use Rattle.std.proofs.Common.{length}
use Rattle.xfs_sides.proofs.MarkLaws.{IsMarkedUpTo}
use Rattle.xfs_sides.proofs.mark.mark_lines.Given as goal

abbrev pub invariant-loop-end : goal.invariant-loop-end
invariant-loop-end l = IsMarkedUpTo l.letter l.text l.rest l.marked.items

abbrev pub decreases-loop-end : goal.decreases-loop-end
decreases-loop-end l = length l.rest
