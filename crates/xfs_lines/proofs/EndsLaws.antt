-- How a run ends well: nothing was done, its boot was refused, or it was booted, went on, and ended.
use Rattle.std.proofs.Common.{◌≡◌, ◌≤◌, ℕ, List, Some, refl, sym, ◌∙◌, ap}
use Rattle.std.specs.Prelude.{is_some}
use Rattle.xfs_disk.specs.declared.disk.Disk.{Ghosts as Disks}
use Rattle.xfs_mech.specs.declared.mechanism.Mechanism.{Ghosts as Mechanisms}
use Rattle.xfs_mech.proofs.MoveLaws.{AddsUp-Moves, AddsUp-same, told-GrowsBy}
use Rattle.xfs_guard.specs.Entries.{at_entry, opened}
use Rattle.xfs_guard.specs.Keeps.{Proceeds}
use Rattle.xfs_guard.specs.Outcomes.{BootsGuard, HandsBack, RefusesBoot}
use Rattle.xfs_guard.specs.Starts.{Starts}
use Rattle.xfs_guard.specs.View.{GuardView, View}
use Rattle.xfs_guard.specs.declared.fail.BootFault.{BootFault}
use Rattle.xfs_guard.specs.declared.machine_core.Core.{Core}
use Rattle.xfs_journal.specs.Journal.{with_boot}
use Rattle.xfs_disk.specs.Moments.{EachImage}
use Rattle.xfs_journal.specs.JournalView.{HasPossible}
use Rattle.xfs_lines.specs.Headlines.{EndsWell}
use Rattle.xfs_lines.specs.Returns.{ComesBack, Return}
use Rattle.xfs_lines.proofs.KeptLaws.{moments-kept, upholds-kept}
use Rattle.xfs_lines.proofs.MomentLaws.{moments-refused, moments-run}
use Rattle.xfs_lines.proofs.RunLaws.{upholds-refused, upholds-run}
use Rattle.xfs_guard.specs.Stored.{EachLeft}
use Rattle.xfs_guard.specs.Recorded.{IsRecorded}

-- the mechanism and the disk of a guard that is over
pub record HasEnded {M D : Type 0} (m : Mechanisms M) (d : Disks D) (g : GuardView D) (result : Return M D) : Type 0 where
  pub motions : m.motions result.mech ≡ g.state.motions
  pub places : m.places result.mech ≡ g.state.places
  pub units : m.units result.mech ≡ g.state.units
  pub faults : m.faults result.mech ≡ g.state.faults
  pub disk : result.disk ≡ g.disk
  pub told : is_some (d.held result.disk) ≡ g.state.disk_told
  pub stored : EachImage d result.disk (HasPossible g.state.records g.state.in_doubt)
  pub recorded : EachLeft d result.disk (IsRecorded g.state.key g.state.units g.state.motions)

pub guard-ended : {M D : Type 0} (m : Mechanisms M) (d : Disks D) (g : GuardView D) (r : Return M D) → HandsBack m d g r.mech r.disk → HasEnded m d g r
guard-ended m d g r e = record {
  motions = e.motions;
  places = e.places;
  units = e.units;
  faults = e.faults;
  disk = e.disk;
  told = e.told;
  stored = e.stored;
  recorded = e.recorded;
}

module _ {M D : Type 0} (m : Mechanisms M) (d : Disks D) (core : Core M D) (r : Return M D)
    (as_read : (disk : D) (all : List ℕ) → d.held disk ≡ Some all → d.images disk all) (starts : Starts m d core) where
  pub ends-kept : ((disk : D) (left : List ℕ) → d.images_since disk (d.moment disk) left → d.images disk left) → ComesBack core r → EndsWell m d core r
  ends-kept only_now kept = record {
    upholds = upholds-kept m d core r kept starts.recorded starts.at_rest;
    any_moment = moments-kept m d core r as_read only_now kept starts.at_rest;
    accounts = rw (kept.mech, kept.disk) (record { adds = AddsUp-same _ _; told = refl; told_disk = refl; units = starts.units });
  }

  pub ends-refused : (why : BootFault) → r.mech ≡ core.mech → RefusesBoot d (at_entry m d core) core.disk why r.disk → EndsWell m d core r
  ends-refused why same f = record {
    upholds = rw same (upholds-refused _ _ _ _ _ _ _ _ starts.recorded starts.at_rest (as_read core.disk) f.either);
    any_moment = rw same (moments-refused d as_read _ _ _ _ _ _ starts.recorded starts.at_rest f.leaves.crashes f.either);
    accounts = rw same (record { adds = AddsUp-same _ _; told = refl; told_disk = f.told; units = starts.units });
  }

  pub ends-run : (first last : GuardView D) → ((disk : D) (t : ℕ) (bytes : List ℕ) → t ≤ d.moment disk → d.images disk bytes → d.images_since disk t bytes)
      → BootsGuard d (at_entry m d core) core.disk first → Proceeds d first last → HasEnded m d last r → EndsWell m d core r
  ends-run first last counts_now boots proceeds e =
      let ok = boots.begins in
      let boot = boots.begins.2 in
      let continues = proceeds.continues in
      record {
        upholds = upholds-run (opened (at_entry m d core) (with_boot ok.0 (m.places core.mech))) last.state ok.0 _ _ _ _ _ _ refl refl ok.1 starts.recorded (as_read core.disk) (rw boot at continues) e.stored
            (λ told bytes image J stands. e.recorded J (record { told = told; bytes = bytes; left = image; stands = stands })) e.motions e.places;
        any_moment = rw e.disk (moments-run d as_read core.disk first last ok.0 _ _ counts_now starts.at_rest (ap (λ (v : View). v.records) boot) ok.1
            (sym proceeds.crashes.told ∙ (rw e.disk at e.told) ∙ continues.disk_told ∙ ap (λ (v : View). v.disk_told) boot)
            boots.leaves.crashes continues proceeds.crashes (rw e.disk at e.stored) (rw e.disk at e.recorded) e.motions);
        accounts = record {
          adds = rw (e.motions, e.places) (AddsUp-Moves _ _ _ _ (rw boot at continues.moves));
          told = ap is_some e.motions ∙ told-GrowsBy _ _ _ continues.moves.grown ∙ ap (λ (v : View). is_some v.motions) boot;
          told_disk = e.told ∙ continues.disk_told ∙ ap (λ (v : View). v.disk_told) boot;
          units = e.units ∙ (continues.units ∙ ap (λ (v : View). v.units) boot);
        };
      }
