-- What the source and the sink in memory hold, and which of their calls fail.
use Rattle.std.specs.Prelude.{◌≡◌, ℕ, List, drop}
use Rattle.xfs_base.specs.Causes.{next_count}
use Rattle.xfs_base.specs.declared.memory_stream.MemSource.{MemSource}
use Rattle.xfs_base.specs.declared.memory_stream.MemSink.{MemSink}

-- the bytes that are left
abbrev pub left_of : MemSource → List ℕ
left_of s = drop s.at s.bytes.items

-- the places, from 1, of the calls that fail, and how many calls there were
abbrev pub failing_reads : MemSource → List ℕ
failing_reads s = s.failing.items

abbrev pub reads_of : MemSource → ℕ
reads_of s = s.calls

-- how often it failed
abbrev pub source_faults : MemSource → ℕ
source_faults s = s.faults

-- one more call was made
pub record CountsRead (old new : MemSource) : Type 0 where
  pub calls : reads_of new ≡ next_count (reads_of old)
  pub failing : failing_reads new ≡ failing_reads old

-- the bytes that were taken
abbrev pub taken_of : MemSink → List ℕ
taken_of s = s.bytes.items

abbrev pub failing_writes : MemSink → List ℕ
failing_writes s = s.failing.items

abbrev pub writes_of : MemSink → ℕ
writes_of s = s.calls

-- how often it failed
abbrev pub sink_faults : MemSink → ℕ
sink_faults s = s.faults

-- one more call was made
pub record CountsWrite (old new : MemSink) : Type 0 where
  pub calls : writes_of new ≡ next_count (writes_of old)
  pub failing : failing_writes new ≡ failing_writes old
