-- What no step of the machine takes back: the journal's list only grows, no count of faults falls, and key, seed, units and limits stay. So does the journal's base, which a restart alone moves.
use Rattle.std.specs.Prelude.{◌≡◌, ◌≢◌, ◌≤◌}
use Rattle.xfs_dispenser.specs.Seen.{Seen}
use Rattle.xfs_guard.specs.Lives.{BeginsWith}
use Rattle.xfs_model.specs.Events.{Event, restart}

pub record Advances (event : Event) (old new : Seen) : Type 0 where
  pub key : new.guard.key ≡ old.guard.key
  pub seed : new.guard.seed ≡ old.guard.seed
  pub units : new.guard.units ≡ old.guard.units
  pub limits : new.guard.limits ≡ old.guard.limits
  pub base : event ≢ restart → new.guard.base ≡ old.guard.base
  pub records : BeginsWith new.guard.records old.guard.records
  pub mech_faults : old.guard.faults ≤ new.guard.faults
  pub disk_faults : old.disk_faults ≤ new.disk_faults
