-- What a run leaves of one machine: nothing was done, its boot was refused, or it was booted, went on, and ended.
use Rattle.std.proofs.Common.{◌≡◌, ◌≤◌, ℕ, List, Some, refl}
use Rattle.xfs_disk.specs.declared.disk.Disk.{Ghosts as Disks}
use Rattle.xfs_mech.specs.declared.mechanism.Mechanism.{Ghosts as Mechanisms}
use Rattle.xfs_guard.specs.Entries.{at_entry, opened}
use Rattle.xfs_guard.specs.Keeps.{Proceeds}
use Rattle.xfs_guard.specs.Starts.{Starts}
use Rattle.xfs_guard.specs.declared.fail.BootFault.{BootFault}
use Rattle.xfs_guard.specs.declared.machine_core.Core.{Core}
use Rattle.xfs_journal.specs.Journal.{with_boot}
use Rattle.xfs_machine.specs.MachineView.{MachineView, guard_of}
use Rattle.xfs_fleet.specs.Boots.{IsBooted, IsRefusedBoot}
use Rattle.xfs_fleet.specs.Endings.{Ends}
use Rattle.xfs_lines.specs.Headlines.{HasHeadline}
use Rattle.xfs_lines.specs.Returns.{ComesBack, Return}
use Rattle.xfs_lines.proofs.BootedLaws.{told-any}
use Rattle.xfs_lines.proofs.EndsLaws.{ends-kept, ends-refused, ends-run}
use Rattle.xfs_cli.proofs.MachineLaws.{machine-ended}
use Rattle.xfs_lines.proofs.NumberLaws.{newer-run, newer-same}
use Rattle.xfs_lines.proofs.RunLaws.{journal-run}
use Rattle.xfs_lines.proofs.UnreadLaws.{unwritten-quiet}
use Rattle.xfs_journal.specs.Held.{StandsForNone}

module _ {M D : Type 0} (m : Mechanisms M) (d : Disks D) (core : Core M D) (r : Return M D)
    (as_read : (disk : D) (all : List ℕ) → d.held disk ≡ Some all → d.images disk all) (starts : Starts m d core) where
  pub headline-kept : ((disk : D) (left : List ℕ) → d.images_since disk (d.moment disk) left → d.images disk left) → ComesBack core r → HasHeadline m d core r
  headline-kept only_now kept = record {
    ends = ends-kept m d core r as_read starts only_now kept;
    unwritten = told-any (d.held core.disk) _ (λ bytes none. rw kept.disk (record { same = refl; adds_none = λ image is. is }));
    unmoved = told-any (d.held core.disk) (λ bytes. StandsForNone bytes → r.mech ≡ core.mech) (λ bytes none. kept.mech);
    newer = rw kept.mech (newer-same _ _);
  }

  pub headline-refused : (why : BootFault) → IsRefusedBoot m d core why r.mech r.disk → HasHeadline m d core r
  headline-refused why f = record {
    ends = ends-refused m d core r as_read starts why f.mech_is f.refuses;
    unwritten = unwritten-quiet d core.disk r.disk f.refuses.unlisted;
    unmoved = told-any (d.held core.disk) (λ bytes. StandsForNone bytes → r.mech ≡ core.mech) (λ bytes none. f.mech_is);
    newer = rw f.mech_is (newer-same _ _);
  }

  pub headline-run : (first last : MachineView D) → ((disk : D) (t : ℕ) (bytes : List ℕ) → t ≤ d.moment disk → d.images disk bytes → d.images_since disk t bytes)
      → IsBooted m d core first → Proceeds d (guard_of first) (guard_of last) → Ends m d last r.mech r.disk → HasHeadline m d core r
  headline-run first last counts_now booted proceeds ends =
      let ok = booted.boots.begins in
      let e = machine-ended m d last r ends.back ends.recorded ends.disk_is in
      record {
        ends = ends-run m d core r as_read starts (guard_of first) (guard_of last) counts_now booted.boots proceeds e;
        unwritten = journal-run ok.0 _ _ ok.1;
        unmoved = journal-run ok.0 _ _ ok.1;
        newer = newer-run (opened (at_entry m d core) (with_boot ok.0 (m.places core.mech))) last.state.seen.guard ok.0 _ _ _ refl refl ok.1 starts.recorded (as_read core.disk) (rw ok.2 at proceeds.continues) e.motions;
      }
