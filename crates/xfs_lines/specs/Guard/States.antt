-- What the lines of `guard` are answered from: the state of a guard, and how a call of it may change that.
use Rattle.std.specs.Prelude.{◌≡◌, ◌≤◌, ℕ, List}
use Rattle.std.specs.declared.option.Option.{Option}
use Rattle.xfs_base.specs.Causes.{Rose}
use Rattle.xfs_base.specs.declared.counts.Places.{Places}
use Rattle.xfs_disk.specs.declared.disk.Disk.{Ghosts as Disks}
use Rattle.xfs_mech.specs.declared.mechanism.Mechanism.{Ghosts as Mechanisms}
use Rattle.xfs_mech.specs.declared.motion.Motion.{Motion}
use Rattle.xfs_guard.specs.View.{View, GuardView}
use Rattle.xfs_dispenser.specs.Seen as Of
pub use Rattle.xfs_guard.specs.View.{shut_at}
use Rattle.xfs_lines.specs.declared.commands.guard.player.GuardPlayer.{GuardPlayer}

-- the guard, how often its disk failed, and the token that was minted last
pub record GuardState : Type 0 where
  pub guard : View
  pub disk_faults : ℕ
  pub last : Option (List ℕ)

-- the state of a guard with its disk
abbrev pub guard_state : {D : Type 0} → (D → ℕ) → GuardView D → Option (List ℕ) → GuardState
guard_state faults g last = record { guard = g.state; disk_faults = faults g.disk; last = last }

-- the state of what plays the lines of `guard`
abbrev pub state_in : {M D : Type 0} {m : Mechanisms M} {d : Disks D} → GuardPlayer M D m d → GuardState
state_in {M} {D} {m} {d} s = guard_state d.faults s.guard s.last

-- what a command of the dispenser sees of a state
abbrev pub guard_of : GuardState → Of.Seen
guard_of s = record { guard = s.guard; disk_faults = s.disk_faults }

-- no count of faults has fallen
pub record IsLater (old new : GuardState) : Type 0 where
  pub mech : old.guard.faults ≤ new.guard.faults
  pub disk : old.disk_faults ≤ new.disk_faults

-- the mechanism is still as the state has it, and the disk's count of faults has not fallen
pub record IsStill (motions : Option (List Motion)) (places : Places) (mech_faults disk_faults : ℕ) (s : GuardState) : Type 0 where
  pub motions_are : s.guard.motions ≡ motions
  pub places_are : s.guard.places ≡ places
  pub mech_is : s.guard.faults ≡ mech_faults
  pub later : s.disk_faults ≤ disk_faults

-- the guard becomes this one; the disk may have been called
pub record Becomes (old : GuardState) (now : View) (new : GuardState) : Type 0 where
  pub guard_is : new.guard ≡ now
  pub later : old.disk_faults ≤ new.disk_faults
  pub last_is : new.last ≡ old.last

-- the disk failed, and the guard becomes this one
pub record Fails (old : GuardState) (now : View) (new : GuardState) : Type 0 where
  pub becomes : Becomes old now new
  pub cause : Rose old.disk_faults new.disk_faults
