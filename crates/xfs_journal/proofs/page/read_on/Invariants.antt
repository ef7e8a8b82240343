use Rattle.std.proofs.Common.{◌+◌, ◌≤◌, ◌-◌, length}
use Rattle.xfs_journal.specs.declared.buffer.TheConstants.{MOST}
use Rattle.xfs_journal.specs.Paging.{Took, IsQuiet}
use Rattle.xfs_journal.proofs.page.read_on.Given as goal

abbrev pub invariant-loop-missing : goal.invariant-loop-missing
invariant-loop-missing g l =
    Took (g.D.Disk.held l.initial.disk) l.initial.page l.page l.initial.out l.out (l.count - l.missing)
    × (l.missing ≤ l.count)
    × (length l.out + l.missing ≤ MOST)
    × IsQuiet g.D.Disk l.initial.disk l.disk

abbrev pub decreases-loop-missing : goal.decreases-loop-missing
decreases-loop-missing g l = l.missing
