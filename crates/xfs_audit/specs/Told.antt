-- A list of motions, read along the records of the orders.
use Rattle.std.specs.Prelude.{◌≡◌, ℕ, ◌+◌, ◌≤◌, List, [], ◌∷◌, Bool, true, false, Some, None, Contains, ⊤}
use Rattle.std.specs.declared.option.Option.{Option}
use Rattle.xfs_base.specs.declared.counts.Counts.{Counts}
use Rattle.xfs_base.specs.declared.counts.Kind.{Kind}
use Rattle.xfs_mech.specs.declared.motion.Motion.{Motion}
use Rattle.xfs_mech.specs.declared.motion.Motion.TheVariants.{Moved}
use Rattle.xfs_journal.specs.declared.record.Rec.{Rec}
use Rattle.xfs_journal.specs.declared.record.Rec.TheVariants.{Order, Done}
use Rattle.xfs_journal.specs.Journal.{record_at}
use Rattle.xfs_guard.specs.Agrees.{IsOrder, IsNoOrder}

-- the number that the next moved entry must pass
abbrev pub low_after : ℕ → Motion → ℕ
low_after low (Moved number kind moved diverted) = number
low_after low m = low

-- the record of this number is an order of this kind and these counts; or it is none
abbrev pub IsOrderAt : List Rec → ℕ → Option (Kind × Counts) → Type 0
IsOrderAt records number (Some order) = record_at records number ≡ Some (Order order.0 order.1)
IsOrderAt records number None = (kind : Kind) (counts : Counts) → ¬ (record_at records number ≡ Some (Order kind counts))

-- whether the record that was read last is an order
abbrev pub IsOrderThere : Bool → Option Rec → Type 0
IsOrderThere true before = IsOrder before
IsOrderThere false before = IsNoOrder before

-- each order whose Done stands among the first so many records has its motion in the list, as the Done tells it
abbrev pub IsMovedAsDone : List Rec → List Motion → ℕ → Type 0
IsMovedAsDone records motions count = (n : ℕ) (kind : Kind) (counts moved diverted : Counts) → n + 1 ≤ count → record_at records n ≡ Some (Order kind counts)
    → record_at records (n + 1) ≡ Some (Done moved diverted) → Contains motions (Moved n kind moved diverted)

-- the list begins with a moved entry of this number or a greater one, or is empty
abbrev pub BeginsAt : ℕ → List Motion → Type 0
BeginsAt number [] = ⊤
BeginsAt number (Moved n kind moved diverted ∷ ms) = number ≤ n
BeginsAt number (m ∷ ms) = ⊥

-- the end of a list has each moved entry from this number on that the list has
pub record IsEndFrom (number : ℕ) (motions end : List Motion) : Type 0 where
  pub kept : (n : ℕ) (kind : Kind) (moved diverted : Counts) → number ≤ n → Contains motions (Moved n kind moved diverted) → Contains end (Moved n kind moved diverted)
  pub had : (m : Motion) → Contains end m → Contains motions m
