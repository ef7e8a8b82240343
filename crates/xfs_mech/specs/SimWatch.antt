-- A watch in memory: the touches to come, and the calls that fail.
use Rattle.std.specs.Prelude.{ℕ, List}
use Rattle.std.specs.Vec.Iter.{into_iter_items}
use Rattle.xfs_mech.specs.declared.sim_watch.SimWatch.{SimWatch}
use Rattle.xfs_mech.specs.declared.touch.Touch.{Touch}

abbrev pub touches_of : SimWatch → List Touch
touches_of w = into_iter_items w.touches

-- the places, from 1, of the calls that fail
abbrev pub failing_of : SimWatch → List ℕ
failing_of w = w.failing.items

-- how many calls were made
abbrev pub calls_of : SimWatch → ℕ
calls_of w = w.calls

-- how often it failed
abbrev pub failures_of : SimWatch → ℕ
failures_of w = w.failures
