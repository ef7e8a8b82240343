-- The state that a boot begins.
use Rattle.std.specs.Prelude.{◌≡◌, ◌≤◌, List, None}
use Rattle.xfs_base.specs.Causes.{IfTold}
use Rattle.xfs_journal.specs.Image.{StandsFor}
use Rattle.xfs_journal.specs.declared.record.Rec.{Rec}
use Rattle.xfs_journal.specs.Journal.{with_boot}
use Rattle.xfs_guard.specs.Entries.{AtEntry, opened}
use Rattle.xfs_lines.specs.Guard.States.{GuardState}

-- the state that the boot begins: the list that the disk had, with a boot record of the mechanism's places behind it; no token was minted
pub record IsStart (e : AtEntry) (start : GuardState) : Type 0 where
  pub records : List Rec
  pub stands : IfTold e.held (λ bytes. StandsFor bytes records)
  pub guard_is : start.guard ≡ opened e (with_boot records e.places)
  pub later : e.disk_faults ≤ start.disk_faults
  pub none : start.last ≡ None
