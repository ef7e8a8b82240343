use Rattle.std.proofs.Common.{◌≡◌, length, take}
use Rattle.xfs_journal.specs.Image.{blocks}
use Rattle.xfs_journal.proofs.differ.size_of.Given as goal

abbrev pub invariant-loop-i : goal.invariant-loop-i
invariant-loop-i l = l.size ≡ length (blocks (take l.i l.records))
