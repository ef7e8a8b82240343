-- A run of `load`: what it plays and writes, its statuses with their causes, and what the mechanism and the disk that come back are.
use Rattle.std.specs.Prelude.{◌≡◌, ◌≢◌, ◌⊎◌, ℕ, List, String, length, None}
use Rattle.std.specs.declared.alloc.Global.{Global}
use Rattle.xfs_base.specs.Causes.{Rose}
use Rattle.xfs_disk.specs.declared.disk.Disk.{Ghosts as Disks}
use Rattle.xfs_mech.specs.Moves.{IsNewer}
use Rattle.xfs_mech.specs.declared.mechanism.Mechanism.{Ghosts as Mechanisms}
use Rattle.xfs_guard.specs.declared.machine_core.Core.{Core}
use Rattle.xfs_model.specs.State.{State, bare}
use Rattle.xfs_lines.specs.Boots.{BootExceeds, EndsFailed}
use Rattle.xfs_cli.specs.BootsOnce.{BootsOnce}
use Rattle.xfs_guard.specs.Entries.{AtEntry, at_entry}
use Rattle.xfs_lines.specs.Guard.Starts.{IsStart}
use Rattle.xfs_cli.specs.LoadEnds.{EndsLoad}
use Rattle.xfs_lines.specs.Run.{IsLoadOf}
use Rattle.xfs_lines.specs.Runs.{FromStart, IsEnd, IsUnbooted}
use Rattle.xfs_lines.specs.Guard.States.{GuardState}
use Rattle.xfs_lines.specs.Output.Statuses.{IsFinished}
use Rattle.xfs_script.specs.Streams.{Streams, output_of}
use Rattle.xfs_lines.specs.Returns.{Return, back}
use Rattle.xfs_lines.specs.declared.ended.Ended.{Ended}
use Rattle.xfs_lines.specs.declared.output.status.TheConstants.{DISK_FAULT, INPUT_TOO_LONG, NOT_A_LINE, READ_FAULT, WRITE_FAULT}
use Rattle.xfs_journal.specs.Held.{OfJournal}

-- what a run of `guard` would see of a machine, with no token minted
abbrev pub guard_state_of : State → GuardState
guard_state_of s = record { guard = s.seen.guard; disk_faults = s.seen.disk_faults; last = None }

-- the machine that the boot begins: over the guard that the boot of `guard` begins too, with this life of a nonce
pub record Begins (e : AtEntry) (life : ℕ) (start : State) : Type 0 where
  pub boots : IsStart e (guard_state_of start)
  pub machine : start ≡ bare start.seen life (length start.seen.guard.records)

-- the rounds are played from a state on, until that of the mechanism and the disk that come back
pub record LoadsUntil {M D : Type 0} (m : Mechanisms M) (d : Disks D) (core : Core M D) (rounds : ℕ) (result : Return M D) (io : Streams) (start : State) : Type 0 where
  pub end : State
  pub ends : IsEnd m d result (guard_state_of end)
  pub loads : EndsLoad core.key rounds start end result.status (output_of io)

-- no status is one of the input's
abbrev pub IsNotOfInput : ℕ → Type 0
IsNotOfInput status = (status ≢ READ_FAULT) × (status ≢ NOT_A_LINE) × (status ≢ INPUT_TOO_LONG)

pub record RunsLoad {M D : Type 0} (m : Mechanisms M) (d : Disks D) (core : Core M D) (rounds : ℕ) (result : Return M D) (io : Streams) : Type 0 where
  -- what is played and written: the rounds from the boot on, and the line of their summary; or the boot is refused
  pub loads : IsUnbooted core result io ⊎ FromStart (Begins (at_entry m d core) core.life) (LoadsUntil m d core rounds result io)
  pub unread_input : io.left ≡ io.input
  pub not_of_input : IsNotOfInput result.status
  pub write : result.status ≡ WRITE_FAULT → Rose io.write_faults io.write_faults_now
  -- the statuses of a boot are those of a refused one
  pub disk_fault : result.status ≡ DISK_FAULT → EndsFailed (d.faults core.disk) (d.faults result.disk) io
  pub boots_once : BootsOnce m d core result io
  -- the mechanism's new numbers lie behind the journal's
  pub newer : OfJournal (d.held core.disk) (λ records. IsNewer (length records) (m.motions core.mech) (m.motions result.mech))
  -- a run that nothing hinders is done
  pub finishes : ¬ (Rose io.write_faults io.write_faults_now) → ¬ (Rose (d.faults core.disk) (d.faults result.disk))
      → OfJournal (d.held core.disk) (λ records. ¬ (BootExceeds core.limits (m.places core.mech) records) → IsFinished result.status)

-- the words `load N` have a run of `load` with N rounds
abbrev pub RunsLoadOf : {M D L : Type 0} → List (String Global) → Mechanisms M → Disks D → Core M D → Ended M D L → Streams → Type 0
RunsLoadOf words m d core ended io = (rounds : ℕ) → IsLoadOf rounds words → RunsLoad m d core rounds (back ended) io
