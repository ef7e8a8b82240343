-- Which lists of records bytes stand for.
use Rattle.std.specs.Prelude.{ℕ, List}
use Rattle.std.specs.declared.option.Option.{Option}
use Rattle.xfs_base.specs.Causes.{IfTold}
use Rattle.xfs_journal.specs.Image.{StandsFor}
use Rattle.xfs_journal.specs.declared.record.Rec.{Rec}

-- the bytes stand for a list that is such
pub record StandsForSome (IsSuch : List Rec → Type 0) (bytes : List ℕ) : Type 0 where
  pub records : List Rec
  pub stands : StandsFor bytes records
  pub such : IsSuch records

-- the bytes stand for no list
abbrev pub StandsForNone : List ℕ → Type 0
StandsForNone bytes = (records : List Rec) → ¬ StandsFor bytes records

-- each list that a disk's bytes stand for is such, where they are told
abbrev pub OfJournal : Option (List ℕ) → (List Rec → Type 0) → Type 0
OfJournal held IsSuch = IfTold held (λ bytes. (records : List Rec) → StandsFor bytes records → IsSuch records)

-- this holds where a disk's bytes are told and stand for no list
abbrev pub WhereNoJournal : Option (List ℕ) → Type 0 → Type 0
WhereNoJournal held Holds = IfTold held (λ bytes. StandsForNone bytes → Holds)
