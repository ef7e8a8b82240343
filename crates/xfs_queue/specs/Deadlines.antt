-- The index of deadlines: an entry for each waiting command of the device line that has a timeout, the least deadline first.
use Rattle.std.specs.Prelude.{ℕ, ◌≤◌, ◌<◌, List, length, slice_index_or, filter_map, All, Contains, None, Some, if◌then◌else◌}
use Rattle.std.specs.declared.option.Option.{Option}
use Rattle.xfs_queue.specs.declared.command.Command.{Command}
use Rattle.xfs_queue.specs.Commands.{ticket_of, has_deadline, deadline}
use Rattle.xfs_queue.specs.declared.deadlines.Entry.{Entry}

-- a new deadline's place: behind those that are no later, before those that are later
pub record IsPlace (entries : List Entry) (due at : ℕ) : Type 0 where
  pub within : at ≤ length entries
  pub before : (k : ℕ) (d : Entry) → k < at → (slice_index_or entries k d).deadline ≤ due
  pub after : (k : ℕ) (d : Entry) → at ≤ k → k < length entries → due ≤ (slice_index_or entries k d).deadline

-- the entry of a command, if it waits on the device line and has a timeout
abbrev pub entry : {J : Type 0} → Command J → Option Entry
entry a = if has_deadline a then Some record { deadline = deadline a; ticket = ticket_of a } else None

abbrev pub entries : {J : Type 0} → List (Command J) → List Entry
entries q = filter_map entry q

-- the index has each of these entries, and no other
pub record IsIndex (index es : List Entry) : Type 0 where
  pub covered : All (Contains index) es
  pub backed : All (Contains es) index
