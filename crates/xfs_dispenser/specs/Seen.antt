-- What a command of the dispenser sees of a guard, and how one call of the guard may change it.
use Rattle.std.specs.Prelude.{◌≡◌, ◌≤◌, ℕ, Bool, true}
use Rattle.xfs_base.specs.Causes.{Rose}
use Rattle.xfs_disk.specs.declared.disk.Disk.{Ghosts}
use Rattle.xfs_guard.specs.Keeps.{Proceeds}
use Rattle.xfs_guard.specs.View.{View, GuardView}
use Rattle.xfs_guard.specs.declared.open.Open.TheVariants.{No}

-- a guard, and how often its disk failed
pub record Seen : Type 0 where
  pub guard : View
  pub disk_faults : ℕ

-- what is seen of a guard with its disk
abbrev pub seen : {D : Type 0} → Ghosts D → GuardView D → Seen
seen g now = record { guard = now.state; disk_faults = g.faults now.disk }

-- the guard is this one then; its disk may have been called
pub record Becomes (old : Seen) (now : View) (new : Seen) : Type 0 where
  pub guard_is : new.guard ≡ now
  pub later : old.disk_faults ≤ new.disk_faults

-- the disk failed, and the guard is this one then
pub record Fails (old : Seen) (now : View) (new : Seen) : Type 0 where
  pub becomes : Becomes old now new
  pub cause : Rose old.disk_faults new.disk_faults

-- the mechanism was called, and failed only where its count rose; the disk was not called
pub record MechCalled (old : Seen) (failed : Bool) (new : Seen) : Type 0 where
  pub later : old.guard.faults ≤ new.guard.faults
  pub cause : failed ≡ true → Rose old.guard.faults new.guard.faults
  pub disk_same : new.disk_faults ≡ old.disk_faults

-- the guard went on, and no order is open then
pub record LeavesNoOrder {D : Type 0} (g : Ghosts D) (old new : GuardView D) : Type 0 where
  pub proceeds : Proceeds g old new
  pub none : new.state.open_order ≡ No
