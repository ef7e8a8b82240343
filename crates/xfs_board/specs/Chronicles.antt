-- What lies behind the lock: a machine, and its guard as it was when the lock was opened, from which it went on. Its chronicle is that guard, and then the records that memory has of the journal: a record's place is its number less the base, plus one.
use Rattle.std.specs.Prelude.{◌≡◌, List, ◌∷◌, drop, map}
use mathlib.Core.List.{IsPrefix}
use Rattle.xfs_disk.specs.declared.disk.Disk.{Ghosts}
use Rattle.xfs_guard.specs.Keeps.{Proceeds}
use Rattle.xfs_guard.specs.View.{GuardView}
use Rattle.xfs_machine.specs.MachineView.{MachineView, guard_of}
use Rattle.xfs_board.specs.declared.shared.Entry.{Entry}
use Rattle.xfs_board.specs.declared.shared.Entry.TheVariants.{Began, Written}

pub record Shared (D : Type 0) : Type 0 where
  pub start : GuardView D
  pub machine : MachineView D

-- a machine at the opening of the lock
abbrev pub at_opening : {D : Type 0} → MachineView D → Shared D
at_opening machine = record { start = guard_of machine; machine = machine }

abbrev pub chronicle : {M D : Type 0} → Shared D → List (Entry M D)
chronicle s = Began s.start ∷ map Written (drop s.start.state.base s.machine.state.seen.guard.records)

-- the records in front of those in memory are as many as when the lock was opened
abbrev pub HasBase : {D : Type 0} → GuardView D → MachineView D → Type 0
HasBase start m = m.state.seen.guard.base ≡ start.state.base

-- a machine comes back of the lock: it went on from a guard that was put behind it, and what was seen begins its chronicle
pub record ComesBack {M D : Type 0} (g : Ghosts D) (seen : List (Entry M D)) (last : MachineView D) : Type 0 where
  pub start : GuardView D
  pub begins : IsPrefix seen (chronicle (record { start = start; machine = last }))
  pub proceeds : Proceeds g start (guard_of last)
