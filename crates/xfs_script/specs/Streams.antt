-- The input and the output of a run, before it and after it.
use Rattle.std.specs.Prelude.{ℕ, List, None}
use Rattle.std.specs.declared.option.Option.{Option}
use Rattle.xfs_base.specs.declared.stream.Source.{Ghosts as Sources}
use Rattle.xfs_base.specs.declared.stream.Sink.{Ghosts as Sinks}

-- the bytes of the input and those that are left of it, what the output held and what it holds now, where they tell them; and how often each failed, before and now
pub record Streams : Type 0 where
  pub input : Option (List ℕ)
  pub left : Option (List ℕ)
  pub read_faults : ℕ
  pub read_faults_now : ℕ
  pub output : Option (List ℕ)
  pub output_now : Option (List ℕ)
  pub write_faults : ℕ
  pub write_faults_now : ℕ

-- the streams of a source and a sink, each before and now
abbrev pub io_of : {S K : Type 0} → Sources S → Sinks K → S → S → K → K → Streams
io_of s k source source' sink sink' = record {
  input = s.left source;
  left = s.left source';
  read_faults = s.faults source;
  read_faults_now = s.faults source';
  output = k.held sink;
  output_now = k.held sink';
  write_faults = k.faults sink;
  write_faults_now = k.faults sink';
}

-- the output before and after, where it is told, and how often it failed
pub record Output : Type 0 where
  pub faults : ℕ
  pub faults_now : ℕ
  pub held : Option (List ℕ)
  pub held_now : Option (List ℕ)

abbrev pub output : {K : Type 0} → Sinks K → K → K → Output
output k sink sink' = record { faults = k.faults sink; faults_now = k.faults sink'; held = k.held sink; held_now = k.held sink' }

-- the output of a run
abbrev pub output_of : Streams → Output
output_of io = record { faults = io.write_faults; faults_now = io.write_faults_now; held = io.output; held_now = io.output_now }

-- the streams of a run that reads nothing
abbrev pub unread_io : Output → Streams
unread_io o = record {
  input = None;
  left = None;
  read_faults = 0;
  read_faults_now = 0;
  output = o.held;
  output_now = o.held_now;
  write_faults = o.faults;
  write_faults_now = o.faults_now;
}
