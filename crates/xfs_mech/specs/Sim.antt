-- A mechanism in memory: its list, its places, and the faults that it was made with.
use Rattle.std.specs.Prelude.{◌≡◌, ℕ, List, Bool, Some, is_some, if◌then◌else◌}
use Rattle.std.specs.declared.option.Option.{Option}
use Rattle.xfs_base.specs.Causes.{next_count}
use Rattle.xfs_base.specs.declared.counts.Places.{Places}
use Rattle.xfs_base.specs.declared.money.NoteKind.{NoteKind}
use Rattle.xfs_mech.specs.declared.fault.Fault.{Fault}
use Rattle.xfs_mech.specs.declared.motion.Motion.{Motion}
use Rattle.xfs_mech.specs.declared.sim.SimMech.{SimMech}
use Rattle.xfs_mech.specs.declared.silent.SilentMech.{SilentMech}
use Rattle.xfs_mech.specs.Faults.{fault_at}
use Rattle.xfs_mech.specs.Mechanism.{CountsFailure}

abbrev pub units_of : SimMech → List NoteKind
units_of m = m.units

abbrev pub places_of : SimMech → Places
places_of m = m.places

abbrev pub motions_of : SimMech → List Motion
motions_of m = m.motions.items

-- its list, which it tells
abbrev pub list_of : SimMech → Option (List Motion)
list_of m = Some (motions_of m)

abbrev pub room_of : SimMech → ℕ
room_of m = m.room

-- the faults that it was made with
abbrev pub faults_of : SimMech → List Fault
faults_of m = m.faults.items

-- how many calls of execute, taken and load were made
abbrev pub calls_of : SimMech → ℕ
calls_of m = m.calls

-- how often it failed
abbrev pub failures_of : SimMech → ℕ
failures_of m = m.failures

-- the fault that the next call meets
abbrev pub due : SimMech → Option Fault
due m = fault_at (faults_of m) (next_count (calls_of m))

-- one more call was made of the same units, and it failed exactly where a fault was due
pub record Counted (old new : SimMech) (failed : Bool) : Type 0 where
  pub units : units_of new ≡ units_of old
  pub met : failed ≡ is_some (due old)
  pub calls : calls_of new ≡ next_count (calls_of old)
  pub failures : failures_of new ≡ (if failed then next_count (failures_of old) else failures_of old)
  pub faults : faults_of new ≡ faults_of old
  pub cause : CountsFailure (failures_of old) (failures_of new) failed

-- nothing was counted
pub record Uncounted (old new : SimMech) : Type 0 where
  pub calls : calls_of new ≡ calls_of old
  pub failures : failures_of new ≡ failures_of old
  pub faults : faults_of new ≡ faults_of old

-- the mechanism that a silent one wraps
abbrev pub inner_of : SilentMech → SimMech
inner_of m = m.inner
