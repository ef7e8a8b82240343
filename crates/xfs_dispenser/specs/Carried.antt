-- How an order is carried out: it is refused; or it is written, acted and settled, and the disk may fail at either record. How counts are stacked by such orders.
use Rattle.std.specs.Prelude.{◌≡◌, ◌≤◌, ◌⊎◌, ℕ, ◌-◌, true, false, List, [], ◌∷◌, replicate, slice_set, take, Ok, Err, Some, None}
use Rattle.std.specs.declared.result.Result.{Result}
use Rattle.xfs_base.specs.Causes.{Rose}
use Rattle.xfs_base.specs.Counts.{at}
use Rattle.xfs_base.specs.declared.counts.Counts.{Counts}
use Rattle.xfs_mech.specs.declared.motion.Outcome.{Outcome}
use Rattle.xfs_guard.specs.Orders.{Acts, Settles, Unsettles}
use Rattle.xfs_guard.specs.View.{shut_at}
use Rattle.xfs_guard.specs.declared.ask.Ask.{Ask}
use Rattle.xfs_guard.specs.declared.ask.Ask.TheVariants.{Stack}
use Rattle.xfs_guard.specs.declared.deny.Deny.{Deny}
use Rattle.xfs_guard.specs.declared.deny.Deny.TheVariants.{Disk}
use Rattle.xfs_dispenser.specs.Seen.{Seen, Becomes, Fails, MechCalled}
use Rattle.xfs_dispenser.specs.Steps.{order_record, ordered, refusal_of}
use Rattle.xfs_dispenser.specs.Units.{units_with}

-- an order was written and acted, with this outcome
pub record IsOrderActed (s : Seen) (ask : Ask) (outcome : Outcome) (acted : Seen) : Type 0 where
  pub written : Seen
  pub order : Becomes s (ordered s.guard ask) written
  pub acts : Acts written.guard acted.guard outcome.moved outcome.diverted outcome.failed
  pub called : MechCalled written outcome.failed acted

-- an order was written, acted and settled: its Done is kept
pub record IsOrderSettled (s : Seen) (ask : Ask) (outcome : Outcome) (next : Seen) : Type 0 where
  pub acted : Seen
  pub first : IsOrderActed s ask outcome acted
  pub settles : Settles acted.guard next.guard
  pub later : acted.disk_faults ≤ next.disk_faults

-- an order was written and acted, and the disk failed at its Done
pub record IsOrderUnsettled (s : Seen) (ask : Ask) (next : Seen) : Type 0 where
  pub outcome : Outcome
  pub acted : Seen
  pub first : IsOrderActed s ask outcome acted
  pub unsettles : Unsettles acted.guard next.guard
  pub later : acted.disk_faults ≤ next.disk_faults
  pub cause : Rose acted.disk_faults next.disk_faults

-- an order ends in a refusal: it is refused, and nothing changes; or the disk fails at its record or at its Done
abbrev pub IsStopped : Seen → Ask → Deny → Seen → Type 0
IsStopped s ask deny next =
    ((refusal_of s.guard ask ≡ Some deny) × (next ≡ s))
    ⊎ ((refusal_of s.guard ask ≡ None) × (deny ≡ Disk) × (Fails s (shut_at (order_record s.guard ask) s.guard) next ⊎ IsOrderUnsettled s ask next))

-- an order is carried out with this result
abbrev pub CarriesOut : Seen → Ask → Result Outcome Deny → Seen → Type 0
CarriesOut s ask (Ok outcome) next = (refusal_of s.guard ask ≡ None) × IsOrderSettled s ask outcome next
CarriesOut s ask (Err deny) next = IsStopped s ask deny next

-- nothing is stacked yet
abbrev pub nothing_stacked : Outcome
nothing_stacked = record { moved = record { 0 = replicate 8 0 }; diverted = record { 0 = replicate 8 0 }; failed = false }

-- one unit's notes of an outcome, which counts from 0 here, beside those before them
abbrev pub with_stacked : Outcome → ℕ → Outcome → Outcome
with_stacked all u one = record {
  moved = record { 0 = slice_set all.moved.0 u (at one.moved u) };
  diverted = record { 0 = slice_set all.diverted.0 u (at one.diverted u) };
  failed = one.failed;
}

-- what follows a unit's order: nothing behind one that is refused or fails, else the orders of the next units
abbrev pub GoesOn : (Outcome → Seen → Result Outcome Deny → Seen → Type 0) → Outcome → Seen → Result Outcome Deny → Seen → Type 0
GoesOn Onward all s result next = ((all.failed ≡ true) × (result ≡ Ok all) × (next ≡ s)) ⊎ ((all.failed ≡ false) × Onward all s result next)

abbrev pub FollowsUnit : (Outcome → Seen → Result Outcome Deny → Seen → Type 0) → Outcome → ℕ → Result Outcome Deny → Seen → Result Outcome Deny → Seen → Type 0
FollowsUnit Onward all u (Err deny) s result next = (result ≡ Err deny) × (next ≡ s)
FollowsUnit Onward all u (Ok one) s result next = GoesOn Onward (with_stacked all u one) s result next

-- the order of one unit, and what follows it
pub record StacksUnit (Onward : Outcome → Seen → Result Outcome Deny → Seen → Type 0) (s : Seen) (ask : Ask) (all : Outcome) (u : ℕ) (result : Result Outcome Deny) (next : Seen) : Type 0 where
  pub one : Result Outcome Deny
  pub middle : Seen
  pub carried : CarriesOut s ask one middle
  pub onward : FollowsUnit Onward all u one middle result next

-- the notes of these units are stacked, by an order for each, behind all that was stacked before
abbrev pub Stacks : ℕ → List (ℕ × ℕ) → Outcome → Seen → Result Outcome Deny → Seen → Type 0
Stacks issue [] all s result next = (result ≡ Ok all) × (next ≡ s)
Stacks issue (unit ∷ units) all s result next = StacksUnit (Stacks issue units) s (Stack issue unit.0 unit.1) all (unit.0 - 1) result next

-- the counts of all units are stacked
abbrev pub StacksAll : ℕ → Counts → Seen → Result Outcome Deny → Seen → Type 0
StacksAll issue counts s result next = Stacks issue (units_with counts.0) nothing_stacked s result next

-- the orders of the first units were carried out, and none of them failed
pub record StacksFirst (issue : ℕ) (counts : List ℕ) (s end : Seen) : Type 0 where
  pub units : ℕ
  pub outcome : Outcome
  pub stacked : Stacks issue (take units (units_with counts)) nothing_stacked s (Ok outcome) end
  pub fine : outcome.failed ≡ false
