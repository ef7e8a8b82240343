-- What a bench is set up with: its ports, what befalls its devices, and what fails.
use Rattle.std.specs.Prelude.{ℕ, List, [], None}
use Rattle.std.specs.declared.option.Option.{Option}
use Rattle.xfs_mech.specs.declared.fault.Fault.{Fault}
use Rattle.xfs_mech.specs.declared.touch.Touch.{Touch}
use Rattle.xfs_simulated.specs.News.{entries, visits}
use Rattle.xfs_simulated.specs.declared.setup.Setup.{Setup}

pub record BenchSetup : Type 0 where
  pub first_port : Option ℕ
  pub cards : List Touch
  pub keys : List Touch
  pub faults : List Fault
  pub failing : List ℕ

abbrev pub setup_of : Setup → BenchSetup
setup_of s = record {
  first_port = s.first_port;
  cards = s.cards.items;
  keys = s.keys.items;
  faults = s.faults.items;
  failing = s.failing.items;
}

-- nobody comes, and nothing fails
abbrev pub quiet_setup : BenchSetup
quiet_setup = record { first_port = None; cards = []; keys = []; faults = []; failing = [] }

-- 100 cards and 100 entries come, and nothing fails
abbrev pub fixed_setup : BenchSetup
fixed_setup = record { first_port = None; cards = visits 100; keys = entries 100; faults = []; failing = [] }
