-- Why a command has the result success: it was done at once, its device has done it, or its plan was done in full. And how the open order comes about and is carried out.
use Rattle.std.specs.Prelude.{◌≡◌, ◌⊎◌, ◌&&◌, Bool, true, false, [], All, Option, None, Some, ⊤}
use Rattle.std.specs.List.{list_any}
use Rattle.xfs_base.specs.declared.counts.Counts.{Counts}
use Rattle.xfs_base.specs.declared.counts.Kind.{Kind}
use Rattle.xfs_base.specs.declared.counts.Kind.TheVariants as kinds
use Rattle.xfs_base.specs.declared.moment.Service.{Service}
use Rattle.xfs_base.specs.declared.moment.Service.TheVariants.{Cash}
use Rattle.xfs_dispenser.specs.declared.ask.CashAsk.TheVariants.{Dispense, Present, Reject, Reset, Retract, SetStorage}
use Rattle.xfs_dispenser.specs.declared.plan.Plan.{Plan}
use Rattle.xfs_envelope.specs.declared.code.Code.{Code}
use Rattle.xfs_envelope.specs.declared.code.Code.TheVariants.{Success}
use Rattle.xfs_guard.specs.View.{View}
use Rattle.xfs_guard.specs.declared.open.Open.{Open}
use Rattle.xfs_guard.specs.declared.open.Open.TheVariants.{No, Written, Acted}
use Rattle.xfs_mech.specs.Mechanism.{MayCarry}
use Rattle.xfs_queue.specs.Commands.{is_at, ticket_of}
use Rattle.xfs_queue.specs.declared.command.Command.{Command}
use Rattle.xfs_queue.specs.declared.command.Ticket.{Ticket}
use Rattle.xfs_model.specs.State.{Ask, cash, Job, Outcome, State, queue_at}

abbrev pub is_success : Code → Bool
is_success Success = true
is_success other = false

-- the result is success
abbrev pub has_succeeded : Option Outcome → Bool
has_succeeded None = false
has_succeeded (Some result) = is_success result.code

abbrev pub had_succeeded : State → Service → Ticket → Bool
had_succeeded s service t = list_any (λ a. is_at t a && has_succeeded a.job.outcome) (queue_at s service)

-- no order is open, or the mechanism didn't fail at it
abbrev pub IsInFull : Open → Type 0
IsInFull No = ⊤
IsInFull (Written kind counts) = ⊥
IsInFull (Acted kind moved diverted failed) = failed ≡ false

-- a command that is done at once has no plan; one that moves notes has one
abbrev pub IsDoneAtOnce : Ask → Type 0
IsDoneAtOnce (cash (Dispense notes token)) = ⊥
IsDoneAtOnce (cash Present) = ⊥
IsDoneAtOnce (cash Reject) = ⊥
IsDoneAtOnce (cash Retract) = ⊥
IsDoneAtOnce (cash Reset) = ⊥
IsDoneAtOnce (cash (SetStorage added)) = ⊥
IsDoneAtOnce ask = ⊤

-- why a command has the result success behind a step: it had it before; it is one that is done at once, without a plan; its device has done it; or no part of its plan is left, and its last order was carried out in full
pub data IsEarned (old : State) (service : Service) (a : Command Job) : Type 0 where
  earned_before : had_succeeded old service (ticket_of a) ≡ true → IsEarned old service a
  at_once : IsDoneAtOnce a.job.ask → a.job.plan ≡ None → IsEarned old service a
  by_device : (service ≡ Cash → ⊥) → IsEarned old service a
  in_full : service ≡ Cash → (left : Plan) → a.job.plan ≡ Some left → left.parts.items ≡ [] → IsInFull old.seen.guard.open_order → IsEarned old service a

abbrev pub SuccessesHaveCauses : State → State → Type 0
SuccessesHaveCauses old new = (service : Service) → All (λ a. has_succeeded a.job.outcome ≡ true → IsEarned old service a) (queue_at new service)

-- what an order of a whole place moves: all that lies there
abbrev pub IsOfPlace : View → Kind → Counts → Type 0
IsOfPlace v kinds.Stack counts = ⊤
IsOfPlace v kinds.Present counts = counts ≡ v.places.transport
IsOfPlace v kinds.Reject counts = counts ≡ v.places.transport
IsOfPlace v kinds.Retract counts = counts ≡ v.places.outlet

-- an order that is open behind a step was so before, or is written in it; one that is acted was so before, or it was written and is carried out in it
abbrev pub OrderFollows : Open → View → Type 0
OrderFollows No old = ⊤
OrderFollows (Written kind counts) old = (old.open_order ≡ Written kind counts) ⊎ ((old.open_order ≡ No) × IsOfPlace old kind counts)
OrderFollows (Acted kind moved diverted failed) old =
    (old.open_order ≡ Acted kind moved diverted failed) ⊎ ((counts : Counts) × (old.open_order ≡ Written kind counts) × MayCarry kind counts moved diverted failed)

abbrev pub OrdersFollow : State → State → Type 0
OrdersFollow old new = OrderFollows new.seen.guard.open_order old.seen.guard
