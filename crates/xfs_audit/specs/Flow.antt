-- How many notes of each unit motions moved, by where they moved them, and the places that this joins.
use Rattle.std.specs.Prelude.{◌≡◌, ℕ, ◌+◌, ◌≤◌, ◌<◌, List, slice_index, nat_lt, if◌then◌else◌}
use Rattle.std.specs.List.{sum_by}
use Rattle.xfs_base.specs.Counts.{at}
use Rattle.xfs_base.specs.declared.counts.Places.{Places}
use Rattle.xfs_mech.specs.declared.motion.Motion.{Motion}
use Rattle.xfs_mech.specs.declared.motion.Motion.TheVariants.{Loaded}
use Rattle.xfs_mech.specs.Motions.{stacked, diverted_of, presented, rejected, retracted, taken, loaded}
use Rattle.xfs_audit.specs.declared.places.Flow.{Flow}

-- what an entry loaded into what is no unit: units are numbered from 1 to 8
abbrev pub astray : Motion → ℕ
astray (Loaded unit count) = if nat_lt 8 unit then count else 0
astray m = 0

-- the sums of these motions, unit by unit
pub record IsFlow (motions : List Motion) (flow : Flow) : Type 0 where
  pub stacked : (u : ℕ) → slice_index flow.stacked u ≡ sum_by (stacked u) motions
  pub diverted : (u : ℕ) → slice_index flow.diverted u ≡ sum_by (diverted_of u) motions
  pub presented : (u : ℕ) → slice_index flow.presented u ≡ sum_by (presented u) motions
  pub rejected : (u : ℕ) → slice_index flow.rejected u ≡ sum_by (rejected u) motions
  pub retracted : (u : ℕ) → slice_index flow.retracted u ≡ sum_by (retracted u) motions
  pub taken : (u : ℕ) → slice_index flow.taken u ≡ sum_by (taken u) motions
  pub loaded : (u : ℕ) → u < 8 → slice_index flow.loaded u ≡ sum_by (loaded u) motions
  pub past : (u : ℕ) → 8 ≤ u → slice_index flow.loaded u ≡ 0
  pub astray : flow.astray ≡ sum_by astray motions

-- no sum is above this
pub record IsSmall (most : ℕ) (flow : Flow) : Type 0 where
  pub stacked : (u : ℕ) → slice_index flow.stacked u ≤ most
  pub diverted : (u : ℕ) → slice_index flow.diverted u ≤ most
  pub presented : (u : ℕ) → slice_index flow.presented u ≤ most
  pub rejected : (u : ℕ) → slice_index flow.rejected u ≤ most
  pub retracted : (u : ℕ) → slice_index flow.retracted u ≤ most
  pub taken : (u : ℕ) → slice_index flow.taken u ≤ most
  pub loaded : (u : ℕ) → slice_index flow.loaded u ≤ most
  pub astray : flow.astray ≤ most

-- what came into the units, the transport and the outlet, and what went out of them
pub record BalancesInside (u : ℕ) (old : Places) (flow : Flow) (new : Places) : Type 0 where
  pub units : at new.units u + (slice_index flow.stacked u + slice_index flow.diverted u) ≡ at old.units u + slice_index flow.loaded u
  pub transport : at new.transport u + (slice_index flow.presented u + slice_index flow.rejected u) ≡ at old.transport u + slice_index flow.stacked u
  pub outlet : at new.outlet u + (slice_index flow.retracted u + slice_index flow.taken u) ≡ at old.outlet u + slice_index flow.presented u

-- what came to the notes that were taken, retracted and rejected
pub record BalancesOutside (u : ℕ) (old : Places) (flow : Flow) (new : Places) : Type 0 where
  pub taken_out : at new.taken u ≡ at old.taken u + slice_index flow.taken u
  pub back : at new.retracted u ≡ at old.retracted u + slice_index flow.retracted u
  pub bin : at new.rejected u ≡ at old.rejected u + (slice_index flow.rejected u + slice_index flow.diverted u)

-- new is old and these sums, in one unit
pub record Balances (u : ℕ) (old : Places) (flow : Flow) (new : Places) : Type 0 where
  pub inside : BalancesInside u old flow new
  pub outside : BalancesOutside u old flow new
