-- The mechanism's list, the oldest first, and the places that it leads to.
use Rattle.std.specs.Prelude.{◌≡◌, ℕ, ◌+◌, ◌==◌, List, if◌then◌else◌, ⊤}
use Rattle.std.specs.List.{sum_by}
use Rattle.xfs_base.specs.Counts.{at}
use Rattle.xfs_base.specs.declared.counts.Places.{Places}
use Rattle.xfs_base.specs.declared.counts.Kind.TheVariants.{Stack, Present, Reject, Retract}
use Rattle.xfs_mech.specs.declared.motion.Motion.{Motion}
use Rattle.xfs_mech.specs.declared.motion.Motion.TheVariants.{Moved, Taken, Loaded}

-- what one entry moved of a unit's notes, by where it moved them
abbrev pub stacked : ℕ → Motion → ℕ
stacked unit (Moved number Stack moved diverted) = at moved unit
stacked unit m = 0

abbrev pub diverted_of : ℕ → Motion → ℕ
diverted_of unit (Moved number Stack moved diverted) = at diverted unit
diverted_of unit m = 0

abbrev pub presented : ℕ → Motion → ℕ
presented unit (Moved number Present moved diverted) = at moved unit
presented unit m = 0

abbrev pub rejected : ℕ → Motion → ℕ
rejected unit (Moved number Reject moved diverted) = at moved unit
rejected unit m = 0

abbrev pub retracted : ℕ → Motion → ℕ
retracted unit (Moved number Retract moved diverted) = at moved unit
retracted unit m = 0

abbrev pub taken : ℕ → Motion → ℕ
taken unit (Taken counts) = at counts unit
taken unit m = 0

abbrev pub loaded : ℕ → Motion → ℕ
loaded unit (Loaded u count) = if u == unit + 1 then count else 0
loaded unit m = 0

-- new is old and what these motions moved, in each unit and place
pub record PlacesOf (old : Places) (motions : List Motion) (new : Places) : Type 0 where
  pub units : (u : ℕ) → at new.units u + (sum_by (stacked u) motions + sum_by (diverted_of u) motions) ≡ at old.units u + sum_by (loaded u) motions
  pub transport : (u : ℕ) → at new.transport u + (sum_by (presented u) motions + sum_by (rejected u) motions) ≡ at old.transport u + sum_by (stacked u) motions
  pub outlet : (u : ℕ) → at new.outlet u + (sum_by (retracted u) motions + sum_by (taken u) motions) ≡ at old.outlet u + sum_by (presented u) motions
  pub taken_out : (u : ℕ) → at new.taken u ≡ at old.taken u + sum_by (taken u) motions
  pub back : (u : ℕ) → at new.retracted u ≡ at old.retracted u + sum_by (retracted u) motions
  pub bin : (u : ℕ) → at new.rejected u ≡ at old.rejected u + (sum_by (rejected u) motions + sum_by (diverted_of u) motions)

-- the number of each moved entry has this
abbrev pub NumberIs : (ℕ → Type 0) → Motion → Type 0
NumberIs P (Moved number kind moved diverted) = P number
NumberIs P m = ⊤
