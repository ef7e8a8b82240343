-- How a command ends whose boot is refused: status 6, 7, 8 or 12, and its last line.
use Rattle.std.specs.Prelude.{◌≡◌, ◌⊎◌, ℕ, true, List}
use Rattle.std.specs.declared.option.Option.{Option}
use Rattle.xfs_base.specs.Causes.{Rose}
use Rattle.xfs_base.specs.declared.counts.Places.{Places}
use Rattle.xfs_disk.specs.Disk.{AddsNone}
use Rattle.xfs_journal.specs.declared.limits.Limits.{Limits}
use Rattle.xfs_journal.specs.declared.record.Rec.{Rec}
use Rattle.xfs_guard.specs.Booting.{has_no_room_at_boot, LacksRoom}
use Rattle.xfs_guard.specs.declared.fail.BootFault.{BootFault}
use Rattle.xfs_guard.specs.declared.fail.BootFault.TheVariants.{NotJournal, Disk, Full}
use Rattle.xfs_script.specs.Streams.{Streams, output_of}
pub use Rattle.xfs_lines.specs.Output.BootLines.{boot_status, boot_line}
use Rattle.xfs_lines.specs.declared.output.status.TheConstants.{DISK_FAULT, NO_MEMORY}
use Rattle.xfs_script.specs.LastLines.{WritesLast}
use Rattle.xfs_journal.specs.JournalView.{IsNoJournal}

-- the last line of a refused boot is written
abbrev pub WritesBoot : BootFault → Streams → Type 0
WritesBoot fault io = WritesLast (boot_line fault) (output_of io)

-- the disk's bytes are no journal from a place on, which the last line tells
pub record EndsUnread (held : Option (List ℕ)) (io : Streams) : Type 0 where
  pub at : ℕ
  pub ceases : IsNoJournal held at
  pub written : WritesBoot (NotJournal at) io

-- the disk failed in the boot, and the last line says so
pub record EndsFailed (faults now : ℕ) (io : Streams) : Type 0 where
  pub cause : Rose faults now
  pub written : WritesBoot Disk io

-- the boot record of these places passes a limit behind these records, of which those from the last boot record on count against the limit of records
abbrev pub BootExceeds : Limits → Places → List Rec → Type 0
BootExceeds limits places records = has_no_room_at_boot limits records places ≡ true

-- the boot record passes a limit behind the records that the disk has, and the last line says so
pub record EndsFull (limits : Limits) (places : Places) (held : Option (List ℕ)) (io : Streams) : Type 0 where
  pub lacks : LacksRoom held limits places
  pub written : WritesBoot Full io

-- the status is the one that is due, unless the disk failed or memory ran out before it was found
abbrev pub IsDue : ℕ → ℕ → Type 0
IsDue due status = (status ≡ due) ⊎ ((status ≡ DISK_FAULT) ⊎ (status ≡ NO_MEMORY))

-- the disk reads as it did, and a crash leaves nothing new
pub record IsUnwritten (held held' : Option (List ℕ)) (images images' : List ℕ → Type 0) : Type 0 where
  pub same : held' ≡ held
  pub adds_none : AddsNone images images'
