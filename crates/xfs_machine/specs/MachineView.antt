-- What is seen of a machine: its state, and the disk of its journal.
use Rattle.std.specs.Prelude.{◌≤◌, ◌≢◌, ℕ}
use Rattle.xfs_base.specs.declared.moment.Moment.{Moment}
use Rattle.xfs_base.specs.declared.moment.TheConstants.{LAST_MOMENT}
use Rattle.xfs_disk.specs.declared.disk.Disk.{Ghosts}
use Rattle.xfs_dispenser.specs.Seen.{seen}
use Rattle.xfs_guard.specs.View.{GuardView}
use Rattle.xfs_machine.specs.declared.dispenser.Dispenser.{Dispenser}
use Rattle.xfs_model.specs.Sound.{IsSound}
use Rattle.xfs_model.specs.State.{State}
use Rattle.xfs_model.specs.Told.{HasMark, IsTold}
use Rattle.xfs_traffic.specs.declared.devices.Devices.{Devices}
use Rattle.xfs_traffic.specs.declared.traffic.Traffic.{Traffic}

pub record MachineView (D : Type 0) : Type 0 where
  pub state : State
  pub disk : D

-- the guard of the machine, with its disk
abbrev pub guard_of : {D : Type 0} → MachineView D → GuardView D
guard_of m = record { state = m.state.seen.guard; disk = m.disk }

-- a machine of these parts
abbrev pub of_parts : {M D : Type 0} → Ghosts D → Dispenser M D → ℕ → Moment → ℕ → Devices → Traffic → State
of_parts g dispenser boot now given devices traffic = record {
  seen = seen g dispenser.guard;
  life = dispenser.life;
  issued = dispenser.issued;
  boot = boot;
  exchange = dispenser.exchange;
  now = now;
  slot = devices.slot;
  keypad = devices.keypad;
  given = given;
  connections = traffic.connections;
  queues = traffic.queues;
}

-- What every call of a machine keeps. What was told of the journal, and what waits to be told, stands in it.
pub record IsWhole (s : State) : Type 0 where
  pub sound : IsSound s
  pub told : IsTold s
  pub mark : HasMark s.seen
  pub moment : s.now.0 ≤ LAST_MOMENT
  pub there : s.boot ≢ 0
