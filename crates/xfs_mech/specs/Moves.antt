-- What a mechanism did from one moment to a later one, whether it tells its list or not: entries that lead from the places before to those now, and by which the list grew, where it is told.
use Rattle.std.specs.Prelude.{◌≡◌, ℕ, ◌<◌, List, ◌++◌, option_map}
use Rattle.std.specs.List.{AllByRecursion}
use Rattle.std.specs.declared.option.Option.{Option}
use Rattle.xfs_base.specs.declared.counts.Places.{Places}
use Rattle.xfs_mech.specs.declared.motion.Motion.{Motion}
use Rattle.xfs_mech.specs.Motions.{PlacesOf, NumberIs}
use Rattle.xfs_mech.specs.Sums.{Adds}

-- a list that is told grew by these entries; one that isn't told stays untold
abbrev pub GrowsBy : List Motion → Option (List Motion) → Option (List Motion) → Type 0
GrowsBy entries before now = now ≡ option_map (λ list. list ++ entries) before

-- these entries were added, and lead from the places before to those now
pub record Moves (before now : Option (List Motion)) (was is : Places) : Type 0 where
  pub entries : List Motion
  pub grown : GrowsBy entries before now
  pub reached : PlacesOf was entries is

-- each unit has the notes that it had, over the six places, and those that were loaded
pub record AddsUp (before now : Option (List Motion)) (was is : Places) : Type 0 where
  pub entries : List Motion
  pub grown : GrowsBy entries before now
  pub adds : Adds was entries is

-- each number of the entries that were added is greater than this
pub record IsNewer (low : ℕ) (before now : Option (List Motion)) : Type 0 where
  pub entries : List Motion
  pub grown : GrowsBy entries before now
  pub newer : AllByRecursion (NumberIs (λ n. low < n)) entries
