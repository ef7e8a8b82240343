-- Which records stay in memory while a file is read.
use Rattle.std.specs.Prelude.{◌≡◌, ℕ, min, length, take, drop, ◌++◌, List}
use Rattle.xfs_journal.specs.Journal.{base_of}
use Rattle.xfs_journal.specs.RecentView.{RecentView}
use Rattle.xfs_journal.specs.declared.record.Rec.{Rec}
use Rattle.xfs_journal.specs.declared.keep.Keep.{Keep}
use Rattle.xfs_journal.specs.declared.keep.Keep.TheVariants.{SinceBoot, Behind}

-- memory has those from the last boot record on, or those behind so many
abbrev pub IsHeld : Keep → RecentView → Type 0
IsHeld SinceBoot r = r.base ≡ base_of r.all
IsHeld (Behind count) r = r.base ≡ min count (length r.all)

-- the front of one list, and behind it what another has there
abbrev pub with_front : ℕ → List Rec → List Rec → List Rec
with_front base kept found = take base kept ++ drop base found
