-- What a crash leaves at any moment of a run.
use Rattle.std.specs.Prelude.{◌⊎◌, ℕ, List}
use Rattle.std.specs.declared.option.Option.{Option}
use Rattle.xfs_base.specs.Causes.{IfTold}
use Rattle.xfs_disk.specs.Moments.{LeavesOnly}
use Rattle.xfs_disk.specs.declared.disk.Disk.{Ghosts as Disks}
use Rattle.xfs_mech.specs.declared.mechanism.Mechanism.{Ghosts as Mechanisms}
use Rattle.xfs_mech.specs.declared.motion.Motion.{Motion}
use Rattle.xfs_journal.specs.Image.{StandsFor}
use Rattle.xfs_journal.specs.declared.record.Rec.{Rec}
use Rattle.xfs_guard.specs.Crashed.{IsLost}
use Rattle.xfs_guard.specs.Lives.{BeginsWith}
use Rattle.xfs_guard.specs.declared.machine_core.Core.{Core}
use Rattle.xfs_lines.specs.Returns.{Return}
use Rattle.xfs_journal.specs.Held.{OfJournal}

-- the list is a prefix of the records, or a prefix without its last record, whose number no motion has
abbrev pub IsPrefixOrLost : List Rec → Option (List Motion) → List Rec → Type 0
IsPrefixOrLost records motions list = BeginsWith records list ⊎ IsLost records motions list

-- the bytes stand for a list that begins with the records at entry, and is such a prefix of those that the disk reads as at the end
pub record WasOnTheWay (entry : List Rec) (held : Option (List ℕ)) (motions : Option (List Motion)) (bytes : List ℕ) : Type 0 where
  pub list : List Rec
  pub stands : StandsFor bytes list
  pub begins : BeginsWith list entry
  pub prefix : OfJournal held (λ records. IsPrefixOrLost records motions list)

-- each image that a crash leaves in a run was on the way, from the list of records that the disk's bytes stood for
abbrev pub WasOnTheWayAll : {M D : Type 0} → Mechanisms M → Disks D → Core M D → Return M D → Type 0
WasOnTheWayAll m d core result = OfJournal (d.held core.disk) (λ records. LeavesOnly d core.disk result.disk (WasOnTheWay records (d.held result.disk) (m.motions result.mech)))
