use Rattle.std.proofs.Common.{◌≡◌, take}
use Rattle.xfs_journal.specs.Journal.{base_of}
use Rattle.xfs_journal.proofs.recent.last_boot.Given as goal

abbrev pub invariant-loop-i : goal.invariant-loop-i
invariant-loop-i l = l.at ≡ base_of (take l.i l.records)
