-- A run with one boot is as its record says.
use Rattle.std.proofs.Common.{◌≡◌, ◌≢◌}
use Rattle.xfs_disk.specs.declared.disk.Disk.{Ghosts as Disks}
use Rattle.xfs_mech.specs.declared.mechanism.Mechanism.{Ghosts as Mechanisms}
use Rattle.xfs_guard.specs.View.{GuardView}
use Rattle.xfs_guard.specs.declared.fail.BootFault.{BootFault}
use Rattle.xfs_guard.specs.declared.machine_core.Core.{Core}
use Rattle.xfs_lines.specs.Boots.{WritesBoot, boot_status}
use Rattle.xfs_cli.specs.BootsOnce.{BootsOnce}
use Rattle.xfs_lines.specs.Returns.{Return}
use Rattle.xfs_script.specs.Streams.{Streams}
use Rattle.xfs_lines.proofs.BootedLaws.{ends-full, told-any}
use Rattle.xfs_lines.proofs.RunLaws.{due-full, due-unread, ends-unread, fits-run, journal-run}
use Rattle.xfs_lines.proofs.UnreadLaws.{unwritten-quiet}
use Rattle.xfs_guard.specs.Outcomes.{BootsGuard, RefusesBoot}
use Rattle.xfs_guard.specs.Entries.{at_entry}
use Rattle.xfs_journal.specs.Held.{StandsForNone}

-- where the boot was refused
pub boots-refused : {M D : Type 0} (m : Mechanisms M) (d : Disks D) (core : Core M D) (why : BootFault) (result : Return M D) (io : Streams)
    → result.mech ≡ core.mech → RefusesBoot d (at_entry m d core) core.disk why result.disk → result.status ≡ boot_status why → WritesBoot why io → BootsOnce m d core result io
boots-refused m d core why result io same f status written = record {
  not_journal = λ seven. ends-unread _ _ _ _ status written f.not_journal seven;
  full = λ twelve. ends-full _ _ _ _ _ _ status written f.full twelve;
  unread = due-unread _ _ _ status f.full;
  unwritten = unwritten-quiet d core.disk result.disk f.unlisted;
  unmoved = told-any (d.held core.disk) (λ bytes. StandsForNone bytes → result.mech ≡ core.mech) (λ bytes none. same);
  overfull = due-full _ _ _ _ _ status f.not_journal;
}

-- where it was not refused, and the status is none of a refused one
pub boots-served : {M D : Type 0} (m : Mechanisms M) (d : Disks D) (core : Core M D) (g : GuardView D) (result : Return M D) (io : Streams)
    → BootsGuard d (at_entry m d core) core.disk g → result.status ≢ 7 → result.status ≢ 12 → BootsOnce m d core result io
boots-served m d core g result io b not_7 not_12 = record {
  not_journal = λ seven. absurd (not_7 seven);
  full = λ twelve. absurd (not_12 twelve);
  unread = journal-run b.begins.0 _ _ b.begins.1;
  unwritten = journal-run b.begins.0 _ _ b.begins.1;
  unmoved = journal-run b.begins.0 _ _ b.begins.1;
  overfull = fits-run _ _ g.state _ _ b.fits;
}
