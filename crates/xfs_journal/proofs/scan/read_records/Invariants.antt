use Rattle.std.proofs.Common.{◌≡◌, ◌-◌, ◌^◌, ◌++◌, drop}
use Rattle.std.specs.List.{AllByRecursion}
use Rattle.xfs_base.specs.Causes.{IfTold}
use Rattle.xfs_journal.specs.Holding.{IsHeld}
use Rattle.xfs_journal.specs.Image.{IsRecord, contents, end_of}
use Rattle.xfs_journal.specs.Paging.{Shows, IsQuiet}
use Rattle.xfs_journal.proofs.scan.read_records.Given as goal

abbrev pub invariant-loop-recent : goal.invariant-loop-recent
invariant-loop-recent g l =
    (l.page.at ≡ end_of l.recent.all)
    × AllByRecursion IsRecord l.recent.all
    × IfTold (g.D.Disk.held l.fn.disk) (λ all. (all ≡ contents l.version l.recent.all ++ drop l.page.at all) × Shows all l.page)
    × IsQuiet g.D.Disk l.fn.disk l.disk
    × IsHeld l.keep l.recent

abbrev pub decreases-loop-recent : goal.decreases-loop-recent
decreases-loop-recent g l = 2 ^ 64 - l.page.at
