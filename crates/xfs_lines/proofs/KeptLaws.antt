-- A run that leaves mechanism and disk as they were upholds what was there.
use Rattle.std.proofs.Common.{◌≡◌, ℕ, List, Some}
use Rattle.xfs_disk.specs.declared.disk.Disk.{Ghosts as Disks}
use Rattle.xfs_mech.specs.declared.mechanism.Mechanism.{Ghosts as Mechanisms}
use Rattle.xfs_guard.specs.declared.machine_core.Core.{Core}
use Rattle.xfs_guard.specs.Starts.{AllRecorded, AtRest}
use Rattle.xfs_lines.specs.Moments.{WasOnTheWayAll}
use Rattle.xfs_lines.specs.Returns.{Return, ComesBack}
use Rattle.xfs_lines.specs.Upholds.{UpholdsAll}
use Rattle.xfs_lines.proofs.MomentLaws.{moments-same}
use Rattle.xfs_lines.proofs.RunLaws.{upholds-same}

module _ {M D : Type 0} (m : Mechanisms M) (d : Disks D) (core : Core M D) (r : Return M D) where
  pub upholds-kept : ComesBack core r → AllRecorded m d core → AtRest d core.disk → UpholdsAll m d core r
  upholds-kept kept starts rest = rw (kept.mech, kept.disk) (upholds-same _ _ _ _ _ _ starts rest)

  pub moments-kept : ((disk : D) (all : List ℕ) → d.held disk ≡ Some all → d.images disk all) → ((disk : D) (left : List ℕ) → d.images_since disk (d.moment disk) left → d.images disk left)
      → ComesBack core r → AtRest d core.disk → WasOnTheWayAll m d core r
  moments-kept as_read only_now kept rest = moments-same d as_read core.disk r.disk (m.motions r.mech) only_now rest kept.disk
