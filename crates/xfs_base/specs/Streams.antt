-- The counts of faults of a std reader and a std writer.
use Rattle.std.specs.Prelude.{ℕ}
use Rattle.xfs_base.specs.declared.std_stream.StdSource.{StdSource}
use Rattle.xfs_base.specs.declared.std_stream.StdSink.{StdSink}

abbrev pub reader_faults : {R : Type 0} → StdSource R → ℕ
reader_faults s = s.faults

abbrev pub writer_faults : {W : Type 0} → StdSink W → ℕ
writer_faults s = s.faults
