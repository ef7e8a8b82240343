-- How far a journal's records were read.
use Rattle.std.specs.Prelude.{◌≡◌, ℕ, ◌≤◌, List, take, length, Some}
use Rattle.xfs_journal.specs.declared.record.Rec.{Rec}
use Rattle.xfs_journal.specs.Journal.{reading}
use Rattle.xfs_audit.specs.declared.reader.Reader.{Reader}

-- the reader has read as many records as it counts, and the issue that lives behind them
pub record IsRead (records : List Rec) (r : Reader) : Type 0 where
  pub within : r.count ≤ length records
  pub read : reading (take r.count records) ≡ record { count = r.count; live = r.live }
  pub known : (p : ℕ) → r.live ≡ Some p → p ≤ r.count
