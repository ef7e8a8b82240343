-- The sum of a unit's six places changes only by what was loaded.
use Rattle.std.specs.Prelude.{◌≡◌, ℕ, ◌+◌, List}
use Rattle.std.specs.List.{sum_by}
use Rattle.xfs_base.specs.Counts.{all_notes}
use Rattle.xfs_base.specs.declared.counts.Places.{Places}
use Rattle.xfs_mech.specs.declared.motion.Motion.{Motion}
use Rattle.xfs_mech.specs.Motions.{loaded}

abbrev pub Adds : Places → List Motion → Places → Type 0
Adds old motions new = (u : ℕ) → all_notes new u ≡ all_notes old u + sum_by (loaded u) motions
