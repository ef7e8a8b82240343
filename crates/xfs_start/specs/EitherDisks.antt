-- A disk of one of two kinds: what it holds, and what a crash leaves of it, is that of the one it is.
use Rattle.std.specs.Prelude.{◌⊎◌, ℕ, List}
use Rattle.xfs_base.specs.Causes.{Rose}
use Rattle.std.specs.declared.option.Option.{Option}
use Rattle.xfs_disk.specs.declared.disk.Disk.{Ghosts as Disks}
use Rattle.xfs_guard.specs.declared.machine_core.Core.{Core}
use Rattle.xfs_mech.specs.declared.sim.SimMech.{SimMech}
use Rattle.xfs_simulated.specs.Resumed.{IsResumed}
use Rattle.xfs_start.specs.declared.either_disk.EitherDisk.{EitherDisk}
use Rattle.xfs_start.specs.declared.either_disk.EitherDisk.TheVariants.{File, Memory}
use Rattle.xfs_journal.specs.Held.{OfJournal}

-- what a read of the one it is gives, where that tells it
abbrev pub held_of : {F M : Type 0} → Disks F → Disks M → EitherDisk F M → Option (List ℕ)
held_of f m (File disk) = f.held disk
held_of f m (Memory disk) = m.held disk

-- the images of the one it is
abbrev pub is_image : {F M : Type 0} → Disks F → Disks M → EitherDisk F M → List ℕ → Type 0
is_image f m (File disk) = f.images disk
is_image f m (Memory disk) = m.images disk

-- the moment of the one it is
abbrev pub moment_of : {F M : Type 0} → Disks F → Disks M → EitherDisk F M → ℕ
moment_of f m (File disk) = f.moment disk
moment_of f m (Memory disk) = m.moment disk

-- the images of the one it is since a moment
abbrev pub was_image : {F M : Type 0} → Disks F → Disks M → EitherDisk F M → ℕ → List ℕ → Type 0
was_image f m (File disk) = f.images_since disk
was_image f m (Memory disk) = m.images_since disk

-- how often the one it is failed
abbrev pub faults_of_either : {F M : Type 0} → Disks F → Disks M → EitherDisk F M → ℕ
faults_of_either f m (File disk) = f.faults disk
faults_of_either f m (Memory disk) = m.faults disk

-- the core goes on where the journal of a disk leaves it, or that disk failed
abbrev pub ResumesFrom : {F M : Type 0} → Disks F → Disks M → F → Core SimMech (EitherDisk F M) → Type 0
ResumesFrom f m disk core = OfJournal (f.held disk) (λ records. Rose (f.faults disk) (faults_of_either f m core.disk) ⊎ IsResumed records core.mech)

-- a core with another disk
abbrev pub with_disk : {M D E : Type 0} → Core M D → E → Core M E
with_disk core disk = record {
  mech = core.mech;
  disk = disk;
  key = core.key;
  seed = core.seed;
  units = core.units;
  limits = core.limits;
  life = core.life;
}
