-- What every call of a guard keeps.
use Rattle.std.specs.Prelude.{◌≤◌}
use Rattle.xfs_disk.specs.Moments.{EachMoment}
use Rattle.xfs_disk.specs.declared.disk.Disk.{Ghosts}
use Rattle.xfs_mech.specs.declared.motion.Motion.{Motion}
use Rattle.xfs_guard.specs.Continues.{Continues}
use Rattle.xfs_guard.specs.Crashed.{LeavesBehind}
use Rattle.xfs_guard.specs.CrashOutcomes.{StandsThrough}
use Rattle.xfs_guard.specs.View.{GuardView}

-- What happened from one state of a guard to a later one: it goes on from it, no count of faults fell, and what a crash left in between was there before or stands for a list on the way.
pub record Proceeds {D : Type 0} (g : Ghosts D) (old new : GuardView D) : Type 0 where
  pub continues : Continues old.state new.state
  pub disk_faults : g.faults old.disk ≤ g.faults new.disk
  pub mech_faults : old.state.faults ≤ new.state.faults
  pub crashes : LeavesBehind g old new

-- What one call keeps, which may add one such entry to the mechanism's list: each image of each moment of it stands besides for a list that is recorded with the mechanism's list before the call, and with that list and any such entry more.
pub record Keeps {D : Type 0} (g : Ghosts D) (MayAdd : Motion → Type 0) (old new : GuardView D) : Type 0 where
  pub proceeds : Proceeds g old new
  pub recorded : EachMoment g old.disk new.disk (λ _. StandsThrough old.state MayAdd)

-- no entry of the mechanism: a call that writes a record adds none
abbrev pub NoEntry : Motion → Type 0
NoEntry entry = ⊥
