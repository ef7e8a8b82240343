-- The journal and the mechanism's list tell the same.
use Rattle.std.specs.Prelude.{◌≡◌, ℕ, ◌+◌, ◌<◌, ◌≤◌, List, [], ◌∷◌, Some, None, ⊤}
use Rattle.std.specs.List.{Contains, AllByRecursion}
use Rattle.std.specs.declared.option.Option.{Option}
use Rattle.xfs_base.specs.Counts.{at}
use Rattle.xfs_base.specs.declared.counts.Counts.{Counts}
use Rattle.xfs_base.specs.declared.counts.Kind.{Kind}
use Rattle.xfs_mech.specs.declared.motion.Motion.{Motion}
use Rattle.xfs_mech.specs.declared.motion.Motion.TheVariants.{Moved}
use Rattle.xfs_journal.specs.declared.record.Rec.{Rec}
use Rattle.xfs_journal.specs.declared.record.Rec.TheVariants.{Order, Done}
use Rattle.xfs_base.specs.declared.counts.Places.{Places}
use Rattle.xfs_journal.specs.Journal.{boot_places, record_at, Walk}

-- the numbers of the moved entries rise, from more than this one
abbrev pub RisesFrom : ℕ → List Motion → Type 0
RisesFrom low [] = ⊤
RisesFrom low (Moved number kind moved diverted ∷ ms) = (low < number) × RisesFrom number ms
RisesFrom low (m ∷ ms) = RisesFrom low ms

-- the order of this number is of this kind, and was passed in no unit
pub record IsOrdered (records : List Rec) (number : ℕ) (kind : Kind) (moved diverted : Counts) : Type 0 where
  pub counts : Counts
  pub ordered : record_at records number ≡ Some (Order kind counts)
  pub within : (u : ℕ) → at moved u + at diverted u ≤ at counts u

-- a moved entry is of an order
abbrev pub IsAsked : List Rec → Motion → Type 0
IsAsked records (Moved number kind moved diverted) = IsOrdered records number kind moved diverted
IsAsked records m = ⊤

abbrev pub IsOrder : Option Rec → Type 0
IsOrder (Some (Order kind counts)) = ⊤
IsOrder r = ⊥

abbrev pub IsNoOrder : Option Rec → Type 0
IsNoOrder (Some (Order kind counts)) = ⊥
IsNoOrder r = ⊤

-- a record that tells places may follow anything, and one that tells none follows no order
abbrev pub MayFollowTelling : Option Rec → Option Places → Type 0
MayFollowTelling before (Some places) = ⊤
MayFollowTelling before None = IsNoOrder before

-- what may follow what: a Done follows an order, a boot record may follow anything, and nothing else follows an order
abbrev pub MayFollow : Option Rec → Rec → Type 0
MayFollow before (Done moved diverted) = IsOrder before
MayFollow before r = MayFollowTelling before (boot_places r)

abbrev pub keep_last : Option Rec → Rec → Option Rec
keep_last before r = Some r

-- The journal and the mechanism's list tell the same.
pub record Agrees (records : List Rec) (motions : List Motion) : Type 0 where
  pub rising : RisesFrom 0 motions
  pub asked : AllByRecursion (IsAsked records) motions
  pub shape : Walk keep_last MayFollow None records
  pub done : (n : ℕ) (kind : Kind) (counts moved diverted : Counts) → record_at records n ≡ Some (Order kind counts)
      → record_at records (n + 1) ≡ Some (Done moved diverted) → Contains motions (Moved n kind moved diverted)
