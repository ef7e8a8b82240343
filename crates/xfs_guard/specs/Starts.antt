-- What a run may start from.
use Rattle.std.specs.Prelude.{◌≡◌, List}
use Rattle.xfs_base.specs.Causes.{IfTold}
use Rattle.xfs_disk.specs.Disk.{Only}
use Rattle.xfs_disk.specs.Moments.{EachImage}
use Rattle.xfs_disk.specs.declared.disk.Disk.{Ghosts as Disks}
use Rattle.xfs_mech.specs.declared.mechanism.Mechanism.{Ghosts as Mechanisms}
use Rattle.xfs_journal.specs.Image.{StandsFor}
use Rattle.xfs_journal.specs.declared.record.Rec.{Rec}
use Rattle.xfs_guard.specs.Recorded.{IsRecorded}
use Rattle.xfs_guard.specs.declared.machine_core.Core.{Core}

-- each list of records that an image of the disk stands for is numbered, agrees with the mechanism's list, and puts out no more than its tokens cover
abbrev pub AllRecorded : {M D : Type 0} → Mechanisms M → Disks D → Core M D → Type 0
AllRecorded m d core = EachImage d core.disk (λ image. (records : List Rec) → StandsFor image records → IsRecorded core.key core.units (m.motions core.mech) records)

-- a crash leaves what the disk reads as
abbrev pub AtRest : {D : Type 0} → Disks D → D → Type 0
AtRest d disk = IfTold (d.held disk) (λ bytes. Only bytes (d.images disk))

-- the condition at entry: the mechanism has the core's table of units, and the disk is at rest and recorded
pub record Starts {M D : Type 0} (m : Mechanisms M) (d : Disks D) (core : Core M D) : Type 0 where
  pub units : m.units core.mech ≡ core.units
  pub recorded : AllRecorded m d core
  pub at_rest : AtRest d core.disk
