-- A run of a command that boots: what it writes, its statuses with their causes, and what the mechanism and the disk that come back are. S is the state that its lines are answered from, and `see` what is seen of it.
use Rattle.std.specs.Prelude.{◌≡◌, ◌⊎◌, ℕ, List, length, None, codes}
use Rattle.std.specs.declared.option.Option.{Option}
use Rattle.xfs_base.specs.Causes.{IfTold, Rose}
use Rattle.xfs_base.specs.declared.counts.Places.{Places}
use Rattle.xfs_disk.specs.declared.disk.Disk.{Ghosts as Disks}
use Rattle.xfs_mech.specs.Moves.{IsNewer}
use Rattle.xfs_mech.specs.declared.mechanism.Mechanism.{Ghosts as Mechanisms}
use Rattle.xfs_journal.specs.JournalView.{HasPossible}
use Rattle.xfs_journal.specs.Image.{StandsFor}
use Rattle.xfs_journal.specs.declared.limits.Limits.{Limits}
use Rattle.xfs_journal.specs.declared.record.Rec.{Rec}
use Rattle.xfs_guard.specs.declared.machine_core.Core.{Core}
use Rattle.xfs_guard.specs.declared.fail.BootFault.{BootFault}
use Rattle.xfs_script.specs.Commands.{Command}
use Rattle.xfs_script.specs.Lines.{AllLines, StopsAtLine}
use Rattle.xfs_lines.specs.Boots.{BootExceeds, EndsFailed, EndsFull, EndsUnread, IsDue, IsUnwritten, WritesBoot, boot_status}
use Rattle.xfs_lines.specs.Guard.States.{IsStill, GuardState}
use Rattle.xfs_lines.specs.Output.InputEnds.{EndsInput}
use Rattle.xfs_lines.specs.Output.Statuses.{HasFullRestart, IsFinished, IsUnhindered}
use Rattle.xfs_script.specs.Streams.{Streams}
use Rattle.xfs_lines.specs.Returns.{Return}
use Rattle.xfs_lines.specs.declared.output.status.TheConstants.{DISK_FAULT, JOURNAL_FULL, NOT_A_JOURNAL, NOT_A_LINE, READ_TO_END}
use Rattle.xfs_journal.specs.Held.{OfJournal, WhereNoJournal}
use Rattle.xfs_disk.specs.Moments.{EachImage}
use Rattle.xfs_guard.specs.Booting.{LacksRoom}

-- the boot begins such a state, and the lines are answered from there on
pub record FromStart {S : Type 0} (IsStartOf Writes : S → Type 0) : Type 0 where
  pub start : S
  pub begins : IsStartOf start
  pub writes : Writes start

-- the mechanism and the disk that come back are those of the last state
pub record IsEnd {M D : Type 0} (m : Mechanisms M) (d : Disks D) (result : Return M D) (last : GuardState) : Type 0 where
  pub motions : last.guard.motions ≡ m.motions result.mech
  pub places : last.guard.places ≡ m.places result.mech
  pub mech_faults : last.guard.faults ≡ m.faults result.mech
  pub disk_faults : last.disk_faults ≡ d.faults result.disk
  -- each image of the disk is that of the last state's list, or of that list with its record in doubt
  pub stored : EachImage d result.disk (HasPossible last.guard.records last.guard.in_doubt)

-- the lines are answered from a state on, until that of the mechanism and the disk that come back
pub record AnswersUntil {M D S : Type 0} (c : Command S BootFault) (see : S → GuardState) (m : Mechanisms M) (d : Disks D) (result : Return M D) (io : Streams) (text : List ℕ) (start : S) : Type 0 where
  pub end : S
  pub ends : IsEnd m d result (see end)
  pub answers : EndsInput c start end result.status io text

-- the boot was refused: nothing was read of the input, the last line is the boot's, and the mechanism is as it was
pub record IsUnbooted {M D : Type 0} (core : Core M D) (result : Return M D) (io : Streams) : Type 0 where
  pub why : BootFault
  pub status_is : result.status ≡ boot_status why
  pub unread : io.left ≡ io.input
  pub written : WritesBoot why io
  pub unmoved : result.mech ≡ core.mech

-- neither the source failed, nor the sink, nor the disk
pub record NothingFailed (io : Streams) (disk_faults now : ℕ) : Type 0 where
  pub source : ¬ (Rose io.read_faults io.read_faults_now)
  pub sink : ¬ (Rose io.write_faults io.write_faults_now)
  pub disk : ¬ (Rose disk_faults now)

-- the mechanism that comes back is still as a state has it
abbrev pub IsStillAt : {M D : Type 0} → Mechanisms M → Disks D → Return M D → GuardState → Type 0
IsStillAt m d result = IsStill (m.motions result.mech) (m.places result.mech) (m.faults result.mech) (d.faults result.disk)

pub record Runs {M D S : Type 0} (c : Command S BootFault) (see : S → GuardState) (IsStartOf : S → Type 0) (m : Mechanisms M) (d : Disks D) (core : Core M D) (result : Return M D) (io : Streams) : Type 0 where
  -- what is written: the answers of the lines from the boot on, and at most one last line
  pub answers : IfTold io.input (λ text. IsUnbooted core result io ⊎ FromStart IsStartOf (AnswersUntil c see m d result io text))
  pub lines : result.status ≡ READ_TO_END → IfTold io.input (AllLines c.IsLine)
  pub not_a_line : result.status ≡ NOT_A_LINE → IfTold io.input (StopsAtLine c.IsLine)
  -- the statuses of a boot are those of a refused one, or of a restart that found the same
  pub disk_fault : result.status ≡ DISK_FAULT → EndsFailed (d.faults core.disk) (d.faults result.disk) io ⊎ FromStart IsStartOf (λ _. Rose (d.faults core.disk) (d.faults result.disk))
  pub not_journal : result.status ≡ NOT_A_JOURNAL → EndsUnread (d.held core.disk) io ⊎ FromStart IsStartOf (λ _. d.held core.disk ≡ None)
  pub full : result.status ≡ JOURNAL_FULL
      → EndsFull core.limits (m.places core.mech) (d.held core.disk) io ⊎ FromStart IsStartOf (λ _. LacksRoom (d.held result.disk) core.limits (m.places result.mech))
  -- a disk that is no journal is due its status, and stays as it was, and so does the mechanism
  pub unread : WhereNoJournal (d.held core.disk) (IsDue NOT_A_JOURNAL result.status)
  pub unwritten : WhereNoJournal (d.held core.disk) (IsUnwritten (d.held core.disk) (d.held result.disk) (d.images core.disk) (d.images result.disk))
  pub unmoved : WhereNoJournal (d.held core.disk) (result.mech ≡ core.mech)
  -- a journal that has no room for the boot record is due its status
  pub overfull : OfJournal (d.held core.disk) (λ records. BootExceeds core.limits (m.places core.mech) records → IsDue JOURNAL_FULL result.status)
  -- the mechanism's new numbers lie behind the journal's
  pub newer : OfJournal (d.held core.disk) (λ records. IsNewer (length records) (m.motions core.mech) (m.motions result.mech))
  -- a run that nothing hinders ends with its input
  pub finishes : NothingFailed io (d.faults core.disk) (d.faults result.disk) → IfTold io.input (λ text. OfJournal (d.held core.disk) (λ records.
      IsUnhindered c.IsLine (HasFullRestart (codes "restart") c see IsStartOf (IsStillAt m d result)) text core.limits (m.places core.mech) records → IsFinished result.status))
