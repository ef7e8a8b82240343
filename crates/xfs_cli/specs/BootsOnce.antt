-- The one boot of a run without restarts: its statuses with their causes, and what it leaves where it is refused.
use Rattle.std.specs.Prelude.{◌≡◌}
use Rattle.xfs_disk.specs.declared.disk.Disk.{Ghosts as Disks}
use Rattle.xfs_mech.specs.declared.mechanism.Mechanism.{Ghosts as Mechanisms}
use Rattle.xfs_guard.specs.declared.machine_core.Core.{Core}
use Rattle.xfs_lines.specs.Boots.{BootExceeds, EndsFull, EndsUnread, IsDue, IsUnwritten}
use Rattle.xfs_lines.specs.Returns.{Return}
use Rattle.xfs_script.specs.Streams.{Streams}
use Rattle.xfs_lines.specs.declared.output.status.TheConstants.{JOURNAL_FULL, NOT_A_JOURNAL}
use Rattle.xfs_journal.specs.Held.{OfJournal, WhereNoJournal}

pub record BootsOnce {M D : Type 0} (m : Mechanisms M) (d : Disks D) (core : Core M D) (result : Return M D) (io : Streams) : Type 0 where
  pub not_journal : result.status ≡ NOT_A_JOURNAL → EndsUnread (d.held core.disk) io
  pub full : result.status ≡ JOURNAL_FULL → EndsFull core.limits (m.places core.mech) (d.held core.disk) io
  -- a disk that is no journal is due its status, and stays as it was, and so does the mechanism
  pub unread : WhereNoJournal (d.held core.disk) (IsDue NOT_A_JOURNAL result.status)
  pub unwritten : WhereNoJournal (d.held core.disk) (IsUnwritten (d.held core.disk) (d.held result.disk) (d.images core.disk) (d.images result.disk))
  pub unmoved : WhereNoJournal (d.held core.disk) (result.mech ≡ core.mech)
  -- a journal that has no room for the boot record is due its status
  pub overfull : OfJournal (d.held core.disk) (λ records. BootExceeds core.limits (m.places core.mech) records → IsDue JOURNAL_FULL result.status)
