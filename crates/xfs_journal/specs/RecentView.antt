-- What a list is of which memory has the end alone.
use Rattle.std.specs.Prelude.{ℕ, ◌+◌, ◌^◌, ◌≤◌, ◌<◌, List, length}
use Rattle.xfs_journal.specs.declared.record.Rec.{Rec}

pub record RecentView : Type 0 where
  -- the records, the oldest first
  pub all : List Rec
  -- how many of them, from the first on, memory doesn't have
  pub base : ℕ
  -- for how many more there is room
  pub room : ℕ

-- there is room for one more record, and its number is one
pub record FitsOneMore (r : RecentView) : Type 0 where
  pub room : 1 ≤ r.room
  pub few : length r.all + 1 < 2 ^ 64
