-- A run of `serve`: the connections that it takes from its boot on, its statuses with their causes, and what the mechanism and the disk that come back are.
use Rattle.std.specs.Prelude.{◌≡◌, ◌≤◌, ◌⊎◌, ◌∷◌, ℕ, List, [], Ok, Err, Result, String}
use Rattle.std.specs.declared.alloc.Global.{Global}
use Rattle.xfs_base.specs.Causes.{IfTold, Rose}
use Rattle.xfs_disk.specs.declared.disk.Disk.{Ghosts as Disks}
use Rattle.xfs_mech.specs.declared.mechanism.Mechanism.{Ghosts as Mechanisms}
use Rattle.xfs_journal.specs.Image.{StandsFor}
use Rattle.xfs_journal.specs.declared.record.Rec.{Rec}
use Rattle.xfs_guard.specs.Continues.{Continues}
use Rattle.xfs_guard.specs.Lives.{BeginsWith}
use Rattle.xfs_guard.specs.Reach.{IsRecordedBehind, NoneInReach, NumberedBehind}
use Rattle.xfs_guard.specs.View.{GuardView, View}
use Rattle.xfs_guard.specs.declared.deny.Deny.{Deny}
use Rattle.xfs_guard.specs.declared.fail.BootFault.TheVariants.{Disk}
use Rattle.xfs_guard.specs.declared.machine_core.Core.{Core}
use Rattle.xfs_machine.specs.Endings.{Finishes, IsHandedBack}
use Rattle.xfs_dispenser.specs.Seen.{seen}
use Rattle.xfs_model.specs.State.{State}
use Rattle.xfs_server.specs.Counted.{counted}
use Rattle.xfs_server.specs.Doors.{DoorLog}
use Rattle.xfs_serving.specs.Takings.{Takes}
use Rattle.xfs_serving.specs.declared.ending.Ending.{Ending}
use Rattle.xfs_serving.specs.declared.ending.Ending.TheVariants.{Served, Failed, Memory}
use Rattle.xfs_lines.specs.Boots.{BootExceeds, EndsFailed, boot_line}
use Rattle.xfs_cli.specs.BootsOnce.{BootsOnce}
use Rattle.xfs_guard.specs.Entries.{at_entry}
use Rattle.xfs_cli.specs.LoadRuns.{Begins}
use Rattle.xfs_lines.specs.Returns.{Return, back}
use Rattle.xfs_lines.specs.Run.{IsServeOf}
use Rattle.xfs_lines.specs.Runs.{FromStart, IsUnbooted}
use Rattle.xfs_lines.specs.Output.Statuses.{IsFinished, IsOneOf}
use Rattle.xfs_script.specs.Streams.{Output, unread_io}
use Rattle.xfs_lines.specs.declared.ended.Ended.{Ended}
use Rattle.xfs_lines.specs.declared.output.status.TheConstants.{DISK_FAULT, JOURNAL_FULL, LINK_FAILED, NOT_A_JOURNAL, NO_MEMORY, READ_TO_END}
use Rattle.xfs_script.specs.LastLines.{WritesLast}
use Rattle.xfs_journal.specs.Held.{StandsForSome, OfJournal}
use Rattle.xfs_disk.specs.Moments.{EachImage}

-- the status of a server whose taking ended so, unless the disk failed at the settling of an open order
abbrev pub served_status : Ending → Result Unit Deny → ℕ
served_status ending (Err deny) = DISK_FAULT
served_status Served (Ok done) = READ_TO_END
served_status Failed (Ok done) = LINK_FAILED
served_status Memory (Ok done) = NO_MEMORY

-- the last line of a server, where it has one
abbrev pub served_line : Result Unit Deny → List (List ℕ)
served_line (Err deny) = boot_line Disk
served_line (Ok done) = []

-- Mechanism and disk are handed back by a guard that went on from that of the boot: from the base of the boot on its issues are numbered, and where no moved entry of the mechanism was in reach of that base, its list is recorded there with that of the mechanism that comes back. So it is also where the disk tells nothing.
pub record ClosesBehind {M D : Type 0} (m : Mechanisms M) (d : Disks D) (start : View) (mech : M) (disk : D) : Type 0 where
  pub last : GuardView D
  pub goes_on : Continues start last.state
  pub back : IsHandedBack m d (seen d last) mech disk
  pub numbered : NumberedBehind start.base last.state.records
  pub recorded : IfTold start.motions (NoneInReach start.base) → IsRecordedBehind start.base start.key start.units last.state.records (m.motions mech)

-- a number of connections are taken at the doors from a machine on, until one whose finish hands back the mechanism and the disk
pub record ServesUntil {M D : Type 0} (m : Mechanisms M) (d : Disks D) (connections : ℕ) (result : Return M D) (before now : DoorLog) (o : Output) (start : State) : Type 0 where
  pub ending : Ending
  pub takes : Takes connections ending before now
  -- the last machine goes on from the first
  pub last : State
  pub goes_on : Continues start.seen.guard last.seen.guard
  pub later : start.seen.disk_faults ≤ last.seen.disk_faults
  pub settled : Result Unit Deny
  pub finishes : Finishes m d last settled result.mech result.disk
  pub status_is : result.status ≡ served_status ending settled
  pub line : WritesLast (served_line settled) o
  pub closes : ClosesBehind m d start.seen.guard result.mech result.disk
  -- every image of the disk begins with the records of the boot
  pub begins : EachImage d result.disk (StandsForSome (λ list. BeginsWith list start.seen.guard.records))

-- nothing was taken
pub record IsUnserved {M D : Type 0} (core : Core M D) (result : Return M D) (before now : DoorLog) (o : Output) : Type 0 where
  pub unbooted : IsUnbooted core result (unread_io o)
  pub untaken : now ≡ before

pub record RunsServe {M D : Type 0} (m : Mechanisms M) (d : Disks D) (core : Core M D) (connections : ℕ) (result : Return M D) (before now : DoorLog) (o : Output) : Type 0 where
  -- what is served: the connections from the boot on; or the boot is refused
  pub serves : IsUnserved core result before now o ⊎ FromStart (Begins (at_entry m d core) core.life) (ServesUntil m d connections result before now o)
  pub status_is : IsOneOf (READ_TO_END ∷ DISK_FAULT ∷ NOT_A_JOURNAL ∷ NO_MEMORY ∷ LINK_FAILED ∷ JOURNAL_FULL ∷ []) result.status
  -- all connections came, or the doors failed
  pub came : result.status ≡ READ_TO_END → now.came ≡ counted connections before.came
  pub failed : result.status ≡ LINK_FAILED → Rose before.faults now.faults
  pub undialled : now.dials ≡ before.dials
  -- the disk failed in the run, at the boot or at the end, and the last line says so
  pub disk_fault : result.status ≡ DISK_FAULT → EndsFailed (d.faults core.disk) (d.faults result.disk) (unread_io o)
  pub boots_once : BootsOnce m d core result (unread_io o)
  -- a run that nothing hinders takes all its connections, or memory runs out
  pub finishes : ¬ (Rose before.faults now.faults) → ¬ (Rose (d.faults core.disk) (d.faults result.disk))
      → OfJournal (d.held core.disk) (λ records. ¬ (BootExceeds core.limits (m.places core.mech) records) → IsFinished result.status)

-- the words `serve N` have a run of `serve` with N connections
abbrev pub RunsServeOf : {M D L : Type 0} → List (String Global) → Mechanisms M → Disks D → Core M D → Ended M D L → DoorLog → DoorLog → Output → Type 0
RunsServeOf words m d core ended before now o = (connections : ℕ) → IsServeOf connections words → RunsServe m d core connections (back ended) before now o
