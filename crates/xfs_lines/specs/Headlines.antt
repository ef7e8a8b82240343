-- What a run leaves of one machine: its headline, what a crash leaves at any moment, its notes, and a disk that is no journal as it was.
use Rattle.std.specs.Prelude.{◌≡◌, length}
use Rattle.xfs_disk.specs.declared.disk.Disk.{Ghosts as Disks}
use Rattle.xfs_mech.specs.Moves.{IsNewer}
use Rattle.xfs_mech.specs.declared.mechanism.Mechanism.{Ghosts as Mechanisms}
use Rattle.xfs_guard.specs.declared.machine_core.Core.{Core}
use Rattle.xfs_lines.specs.Boots.{IsUnwritten}
use Rattle.xfs_lines.specs.Moments.{WasOnTheWayAll}
use Rattle.xfs_lines.specs.Returns.{Return}
use Rattle.xfs_lines.specs.Upholds.{Accounts, UpholdsAll}
use Rattle.xfs_journal.specs.Held.{OfJournal, WhereNoJournal}

-- what was put out is within the tokens at the end and at each moment of the run, and the notes add up
pub record EndsWell {M D : Type 0} (m : Mechanisms M) (d : Disks D) (core : Core M D) (result : Return M D) : Type 0 where
  pub upholds : UpholdsAll m d core result
  pub any_moment : WasOnTheWayAll m d core result
  pub accounts : Accounts m d core result

pub record HasHeadline {M D : Type 0} (m : Mechanisms M) (d : Disks D) (core : Core M D) (result : Return M D) : Type 0 where
  pub ends : EndsWell m d core result
  -- a disk that is no journal stays as it was, and its mechanism too
  pub unwritten : WhereNoJournal (d.held core.disk) (IsUnwritten (d.held core.disk) (d.held result.disk) (d.images core.disk) (d.images result.disk))
  pub unmoved : WhereNoJournal (d.held core.disk) (result.mech ≡ core.mech)
  -- the mechanism's new numbers lie behind the journal's
  pub newer : OfJournal (d.held core.disk) (λ records. IsNewer (length records) (m.motions core.mech) (m.motions result.mech))
