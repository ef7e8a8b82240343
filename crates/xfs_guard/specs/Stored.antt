-- Which lists of records a disk may have.
use Rattle.std.specs.Prelude.{◌≡◌, ◌⊎◌, true, is_some, ℕ, List}
use Rattle.std.specs.declared.option.Option.{Option}
use Rattle.xfs_base.specs.declared.counts.Places.{Places}
use Rattle.xfs_disk.specs.declared.disk.Disk.{Ghosts}
use Rattle.xfs_journal.specs.Image.{StandsFor}
use Rattle.xfs_journal.specs.JournalView.{IsPossible}
use Rattle.xfs_journal.specs.declared.record.Rec.{Rec}
use Rattle.xfs_journal.specs.Journal.{with_boot}

-- the disk tells, and a crash may leave bytes that stand for this list
pub record MayLeave {D : Type 0} (g : Ghosts D) (disk : D) (records : List Rec) : Type 0 where
  pub told : is_some (g.held disk) ≡ true
  pub bytes : List ℕ
  pub left : g.images disk bytes
  pub stands : StandsFor bytes records

-- each list that a crash may leave is such
abbrev pub EachLeft : {D : Type 0} → Ghosts D → D → (List Rec → Type 0) → Type 0
EachLeft g disk IsSuch = (records : List Rec) → MayLeave g disk records → IsSuch records

-- a crash may have left this list before, or this list without its boot record
pub record WasLeft {D : Type 0} (g : Ghosts D) (disk : D) (places : Places) (records : List Rec) : Type 0 where
  pub list : List Rec
  pub before : MayLeave g disk list
  pub grown : (records ≡ list) ⊎ (records ≡ with_boot list places)
