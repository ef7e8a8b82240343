-- What a boot leaves of a disk whose bytes are no journal.
use Rattle.xfs_disk.specs.declared.disk.Disk.{Ghosts}
use Rattle.xfs_base.specs.Causes.{IfTold}
use Rattle.xfs_journal.specs.Paging.{IsQuiet}
use Rattle.xfs_journal.proofs.Told.{on_told, from_told}
use Rattle.xfs_lines.specs.Boots.{IsUnwritten}
use Rattle.xfs_journal.specs.Held.{StandsForNone}

-- a disk that was only read isn't written
pub unwritten-quiet : {D : Type 0} (g : Ghosts D) (old new : D)
    → IfTold (g.held old) (λ bytes. StandsForNone bytes → IsQuiet g old new) → IfTold (g.held old) (λ bytes. StandsForNone bytes → IsUnwritten (g.held old) (g.held new) (g.images old) (g.images new))
unwritten-quiet g old new quiet = on_told (g.held old) (λ bytes. StandsForNone bytes → IsUnwritten (g.held old) (g.held new) (g.images old) (g.images new)) (λ all told none.
    let q = from_told (g.held old) (λ bytes. StandsForNone bytes → IsQuiet g old new) quiet all told none in
    record { same = q.same; adds_none = q.adds_none })
