-- What a machine is made of that nobody used: a mechanism of its units that did nothing yet, where it tells that, and a disk in memory that has no journal and nothing on its way.
use Rattle.std.specs.Prelude.{◌≡◌, List, []}
use Rattle.xfs_base.specs.Causes.{IfTold}
use Rattle.xfs_base.specs.declared.money.NoteKind.{NoteKind}
use Rattle.xfs_disk.specs.MemDisk.{bytes_of, steps_of}
use Rattle.xfs_disk.specs.declared.memory.MemDisk.{MemDisk}
use Rattle.xfs_journal.specs.Image.{IsImage}
use Rattle.xfs_journal.specs.declared.record.Rec.{Rec}
use Rattle.xfs_mech.specs.declared.mechanism.Mechanism.{Ghosts}

pub record IsUnused {M : Type 0} (g : Ghosts M) (mech : M) (units : List NoteKind) (disk : MemDisk) : Type 0 where
  pub fresh : IfTold (g.motions mech) (λ motions. motions ≡ [])
  pub units_are : g.units mech ≡ units
  pub settled : steps_of disk ≡ []
  pub none : (records : List Rec) → ¬ IsImage (bytes_of disk) records
