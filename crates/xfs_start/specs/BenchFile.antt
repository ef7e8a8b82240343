-- What the lines of `xfs.bench` set up.
use Rattle.std.specs.Prelude.{◌≡◌, ◌⊎◌, ℕ, List, [], ◌∷◌, ◌++◌, None, Some, fold, if◌then◌else◌, is_some, map, slice_get}
use Rattle.std.specs.List.{AllZip, slice_split}
use Rattle.std.specs.declared.option.Option.{Option}
use Rattle.xfs_mech.specs.Faults.{fault_at}
use Rattle.xfs_script.specs.Lines.{is_line_feed, without_return}
use Rattle.xfs_simulated.specs.Setups.{BenchSetup, fixed_setup, quiet_setup}
use Rattle.xfs_start.specs.BenchLines.{IsBenchLine, IsNoLine}
use Rattle.xfs_start.specs.declared.bench_line.BenchLine.{BenchLine}
use Rattle.xfs_start.specs.declared.bench_line.BenchLine.TheVariants.{Skip, Ports, Card, Key, Fault, Failing}

-- the lines of a text, of which each may have a carriage return at its end
abbrev pub lines : List ℕ → List (List ℕ)
lines text = map without_return (slice_split is_line_feed text)

-- what one more line adds; none where it says again which ports or what becomes of a call
abbrev pub with_line : BenchSetup → BenchLine → Option BenchSetup
with_line s Skip = Some s
with_line s (Ports first) = if is_some s.first_port then None else Some (record s { first_port = Some first })
with_line s (Card touch) = Some (record s { cards = s.cards ++ touch ∷ [] })
with_line s (Key touch) = Some (record s { keys = s.keys ++ touch ∷ [] })
with_line s (Fault fault) = if is_some (fault_at s.faults fault.call) then None else Some (record s { faults = s.faults ++ fault ∷ [] })
with_line s (Failing calls) = Some (record s { failing = s.failing ++ calls.items })

abbrev pub setup_after : Option BenchSetup → BenchLine → Option BenchSetup
setup_after None line = None
setup_after (Some s) line = with_line s line

-- the lines set up a quiet bench, one after the other
abbrev pub setup_by : List BenchLine → Option BenchSetup
setup_by each = fold setup_after (Some quiet_setup) each

-- the text's lines are these, and set this up
pub record SetsUp (text : List ℕ) (setup : BenchSetup) : Type 0 where
  pub each : List BenchLine
  pub written : AllZip IsBenchLine (lines text) each
  pub all : setup_by each ≡ Some setup

-- the fixed bench, or what a text sets up
abbrev pub IsSetUp : Option (List ℕ) → BenchSetup → Type 0
IsSetUp None setup = setup ≡ fixed_setup
IsSetUp (Some text) setup = SetsUp text setup

-- some line is of no form
pub record HasNoLine (each : List (List ℕ)) : Type 0 where
  pub place : ℕ
  pub line : List ℕ
  pub there : slice_get each place ≡ Some line
  pub none : IsNoLine line

-- the lines of a text say something twice
pub record SaysTwice (text : List ℕ) : Type 0 where
  pub each : List BenchLine
  pub written : AllZip IsBenchLine (lines text) each
  pub twice : setup_by each ≡ None

-- why a text is no bench
abbrev pub IsBad : Option (List ℕ) → Type 0
IsBad None = ⊥
IsBad (Some text) = HasNoLine (lines text) ⊎ SaysTwice text
