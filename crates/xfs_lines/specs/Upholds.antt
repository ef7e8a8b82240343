-- The headline: what was put out is within the tokens, for each list of records that a crash may leave, and follows what stood at entry.
use Rattle.std.specs.Prelude.{◌≡◌, ℕ, List, is_some}
use Rattle.std.specs.declared.option.Option.{Option}
use Rattle.xfs_base.specs.Causes.{IfTold}
use Rattle.xfs_base.specs.declared.money.NoteKind.{NoteKind}
use Rattle.xfs_base.specs.declared.counts.Places.{Places}
use Rattle.xfs_disk.specs.declared.disk.Disk.{Ghosts as Disks}
use Rattle.xfs_mech.specs.Moves.{AddsUp}
use Rattle.xfs_mech.specs.declared.mechanism.Mechanism.{Ghosts as Mechanisms}
use Rattle.xfs_mech.specs.declared.motion.Motion.{Motion}
use Rattle.xfs_journal.specs.Image.{StandsFor}
use Rattle.xfs_journal.specs.declared.record.Rec.{Rec}
use Rattle.xfs_guard.specs.Follows.{Follows}
use Rattle.xfs_guard.specs.Recorded.{IsRecorded}
use Rattle.xfs_guard.specs.declared.machine_core.Core.{Core}
use Rattle.xfs_lines.specs.Returns.{Return}
use Rattle.xfs_journal.specs.Held.{OfJournal}
use Rattle.xfs_disk.specs.Moments.{EachImage}

-- the records, the mechanism's list and the places follow those at entry, where the mechanism tells its list
abbrev pub FollowsWhereTold : List Rec → Option (List Motion) → Places → List Rec → Option (List Motion) → Places → Type 0
FollowsWhereTold records motions places records' motions' places' = IfTold motions (λ before. IfTold motions' (λ now. Follows records before places records' now places'))

-- bytes stand for a list of records that is numbered, agrees with the mechanism's list, and puts out no more than its tokens cover; and that list follows the list at entry
pub record Upholds (key : List ℕ) (units : List NoteKind) (entry : List Rec) (motions : Option (List Motion)) (places : Places) (bytes : List ℕ) (motions' : Option (List Motion)) (places' : Places) : Type 0 where
  pub records : List Rec
  pub stands : StandsFor bytes records
  pub recorded : IsRecorded key units motions' records
  pub follows : FollowsWhereTold entry motions places records motions' places'

-- each image of the disk that comes back upholds the tokens, from the list of records that the disk's bytes stood for
abbrev pub UpholdsAll : {M D : Type 0} → Mechanisms M → Disks D → Core M D → Return M D → Type 0
UpholdsAll m d core result = OfJournal (d.held core.disk) (λ records. EachImage d result.disk (λ image.
    Upholds core.key core.units records (m.motions core.mech) (m.places core.mech) image (m.motions result.mech) (m.places result.mech)))

-- the mechanism's notes add up, its table of units is the core's, and what told its list or its bytes still does
pub record Accounts {M D : Type 0} (m : Mechanisms M) (d : Disks D) (core : Core M D) (result : Return M D) : Type 0 where
  pub adds : AddsUp (m.motions core.mech) (m.motions result.mech) (m.places core.mech) (m.places result.mech)
  pub told : is_some (m.motions result.mech) ≡ is_some (m.motions core.mech)
  pub told_disk : is_some (d.held result.disk) ≡ is_some (d.held core.disk)
  pub units : m.units result.mech ≡ core.units
