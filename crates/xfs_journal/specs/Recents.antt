-- The front that memory doesn't have: what the list was before it last let go of records has it.
use Rattle.std.specs.Prelude.{◌≡◌, ℕ, ◌+◌, ◌<◌, ◌^◌, List, [], length, take, ⊤}
use Rattle.xfs_journal.specs.Journal.{issues_in}
use Rattle.xfs_journal.specs.declared.record.Rec.{Rec}
use Rattle.xfs_journal.specs.declared.recent.Past.{Past}
use Rattle.xfs_journal.specs.declared.recent.Past.TheVariants.{Nothing, Was}

-- the records in front of the base
abbrev pub front_of : ℕ → Past → List Rec
front_of base Nothing = []
front_of base (Was s) = take base s.value.all

-- what the list was before has a lower base
abbrev pub IsBefore : ℕ → Past → Type 0
IsBefore base Nothing = ⊤
IsBefore base (Was s) = s.value.base < base

-- The base counts the records in front, of which so many are Issues, and no number passes a u64.
pub record IsRecent (before : Past) (records : List Rec) (base issues : ℕ) : Type 0 where
  pub place : base ≡ length (front_of base before)
  pub older : IsBefore base before
  pub few : base + length records < 2 ^ 64
  pub issues_is : issues ≡ issues_in (front_of base before)
