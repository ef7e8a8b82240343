-- The plans of the dispenser's commands: the parts that are left to be done, in their order.
use Rattle.std.specs.Prelude.{◌≡◌, ◌≢◌, ◌≤◌, ℕ, ◌==◌, Bool, false, List, [], ◌∷◌, ◌++◌, length, map, flat_map, sum, ⊤, Some, None, IfSome, if◌then◌else◌}
use Rattle.std.specs.List.{AllByRecursion}
use Rattle.std.specs.declared.option.Option.{Option}
use Rattle.xfs_base.specs.declared.counts.Counts.{Counts}
use Rattle.xfs_base.specs.declared.counts.Places.{Places}
use Rattle.xfs_mech.specs.Mechanism.{CanLoad}
use Rattle.xfs_guard.specs.View.{View}
use Rattle.xfs_guard.specs.Refusals.{IsAsk}
use Rattle.xfs_guard.specs.declared.ask.Ask.{Ask}
use Rattle.xfs_guard.specs.declared.ask.Ask.TheVariants.{Stack, Reject, Retract}
use Rattle.xfs_guard.specs.declared.open.Open.{Open}
use Rattle.xfs_guard.specs.declared.open.Open.TheVariants.{No, Acted}
use Rattle.xfs_dispenser.specs.Units.{units_with}
use Rattle.xfs_dispenser.specs.declared.part.Part.{Part}
use Rattle.xfs_dispenser.specs.declared.part.Part.TheVariants.{Order, Restore, Load, Note}
use Rattle.xfs_dispenser.specs.declared.plan.Plan.{Plan}

-- an order for each unit with notes
abbrev pub stacks : ℕ → List ℕ → List Part
stacks issue counts = map (λ (u : ℕ × ℕ). Order (Stack issue u.0 u.1)) (units_with counts)

-- a loading and its record for each unit that gets notes
abbrev pub loads : List ℕ → List Part
loads counts = flat_map (λ (u : ℕ × ℕ). Load u.0 u.1 ∷ Note u.0 u.1 ∷ []) (units_with counts)

-- an order of all the notes of a place, where there are some
abbrev pub order_of_all : Ask → Counts → List Part
order_of_all ask counts = if sum counts.0 == 0 then [] else Order ask ∷ []

-- the orders that empty the places which a restore found
abbrev pub emptying : Places → List Part
emptying places = order_of_all Reject places.transport ++ order_of_all Retract places.outlet

-- a plan of these parts, whose answer tells these notes
abbrev pub plan_of : Option Counts → List Part → Plan
plan_of notes parts = record { notes = notes; parts = record { items = parts }; failed = false }

-- a plan with other parts left
abbrev pub with_parts : Plan → List Part → Plan
with_parts plan parts = record plan { parts = record { items = parts } }

abbrev pub dispense_plan : ℕ → Counts → Plan
dispense_plan issue counts = plan_of (Some counts) (stacks issue counts.0)

-- a plan of the one order of all the notes of a place
abbrev pub order_plan : Ask → Plan
order_plan ask = plan_of None (Order ask ∷ [])

abbrev pub reset_plan : Plan
reset_plan = plan_of None (Restore ∷ [])

abbrev pub storage_plan : Counts → Plan
storage_plan added = plan_of None (loads added.0)

-- a part can be begun: a unit is in the table, its count isn't 0, and a loading has room
abbrev pub CanBegin : View → Part → Type 0
CanBegin v (Order ask) = IsAsk v ask
CanBegin v Restore = ⊤
CanBegin v (Load unit count) = CanLoad v.units v.places unit count
CanBegin v (Note unit count) = (1 ≤ unit) × (unit ≤ length v.units)

-- a part loads no notes of a unit
abbrev pub IsNoLoadOf : ℕ → Part → Type 0
IsNoLoadOf unit (Load other count) = other ≢ unit
IsNoLoadOf unit part = ⊤

-- no later part loads notes of the same unit
abbrev pub IsApart : Part → List Part → Type 0
IsApart (Load unit count) parts = AllByRecursion (IsNoLoadOf unit) parts
IsApart part parts = ⊤

-- each part can be begun, and loadings are of different units
abbrev pub CanBeginAll : View → List Part → Type 0
CanBeginAll v [] = ⊤
CanBeginAll v (part ∷ parts) = CanBegin v part × IsApart part parts × CanBeginAll v parts

-- an acted order's failure is kept
abbrev pub KeepsOutcome : Open → Bool → Type 0
KeepsOutcome (Acted kind moved diverted failed) kept = kept ≡ failed
KeepsOutcome other kept = ⊤

-- the notes that a plan tells are a count for each of eight units
abbrev pub AreEight : Option Counts → Type 0
AreEight notes = IfSome notes (λ counts. length counts.0 ≡ 8)

-- a plan that can be worked on: an order is open or a part is left, an acted order's failure is kept, each part that is left can be begun, and the notes that it tells are eight counts
pub record IsPlanned (v : View) (plan : Plan) : Type 0 where
  pub some_left : v.open_order ≡ No → plan.parts.items ≢ []
  pub outcome : KeepsOutcome v.open_order plan.failed
  pub parts : CanBeginAll v plan.parts.items
  pub eight : AreEight plan.notes
