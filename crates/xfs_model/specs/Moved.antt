-- What a Dispense or a Present has done where it has the result success: all of its notes were moved, since the step that began it.
use Rattle.std.specs.Prelude.{◌≡◌, ◌+◌, ℕ, true, All, Ok, ⊤, IfSome}
use Rattle.xfs_base.specs.Counts.{at, IsZero}
use Rattle.xfs_base.specs.declared.counts.Counts.{Counts}
use Rattle.xfs_base.specs.declared.counts.Places.{Places}
use Rattle.xfs_base.specs.declared.moment.Service.TheVariants.{Cash}
use Rattle.xfs_dispenser.specs.Denominations.{NotesGiven, denomination_payload}
use Rattle.xfs_dispenser.specs.declared.ask.CashAsk.TheVariants.{Dispense, Present}
use Rattle.xfs_dispenser.specs.declared.notes.Notes.{Notes}
use Rattle.xfs_guard.specs.View.{View}
use Rattle.xfs_queue.specs.Commands.{is_at, is_running, is_waiting}
use Rattle.xfs_queue.specs.declared.command.Command.{Command}
use Rattle.xfs_queue.specs.declared.command.Ticket.{Ticket}
use Rattle.xfs_model.specs.Events.{Answer, Event}
use Rattle.xfs_model.specs.State.{Ask, cash, Job, Outcome, State, queue_at}
use Rattle.xfs_model.specs.Step.{Step}
use Rattle.xfs_model.specs.Successes.{is_success}

-- so many notes of a unit were put out: they lie in the outlet, or the customer took them
abbrev pub put_out : Places → ℕ → ℕ
put_out p u = at p.outlet u + at p.taken u

-- notes went from the units to the transport, and no others anywhere, but that the customer may take from the outlet
pub record IsStackedInFull (before now : Places) (counts : Counts) : Type 0 where
  pub gained : (u : ℕ) → at now.transport u ≡ at before.transport u + at counts u
  pub given : (u : ℕ) → at now.units u + at counts u ≡ at before.units u
  pub out : (u : ℕ) → put_out now u ≡ put_out before u
  pub back : (u : ℕ) → at now.retracted u ≡ at before.retracted u
  pub bin : (u : ℕ) → at now.rejected u ≡ at before.rejected u

-- the whole transport went to the outlet, and no other notes anywhere, but that the customer may take from the outlet
pub record IsPresentedInFull (before now : Places) : Type 0 where
  pub gained : (u : ℕ) → put_out now u ≡ put_out before u + at before.transport u
  pub left : IsZero now.transport
  pub units : (u : ℕ) → at now.units u ≡ at before.units u
  pub back : (u : ℕ) → at now.retracted u ≡ at before.retracted u
  pub bin : (u : ℕ) → at now.rejected u ≡ at before.rejected u

-- notes that were asked for were stacked, all of them, and the result tells them
pub record IsPaidInFull (before now : View) (notes : Notes) (result : Outcome) : Type 0 where
  pub counts : Counts
  pub given : NotesGiven before.units before.places.units notes (Ok counts)
  pub told : result.payload ≡ denomination_payload before.units counts
  pub stacked : IsStackedInFull before.places now.places counts

-- what was asked for was moved, all of it
abbrev pub MovesAll : View → View → Ask → Outcome → Type 0
MovesAll before now (cash (Dispense notes token)) result = IsPaidInFull before now notes result
MovesAll before now (cash Present) result = IsPresentedInFull before.places now.places
MovesAll before now ask result = ⊤

-- a command has moved all that it was asked for, where it has the result success
abbrev pub IsFulfilled : View → View → Command Job → Type 0
IsFulfilled before now a = IfSome a.job.outcome (λ (result : Outcome). is_success result.code ≡ true → MovesAll before now a.job.ask result)

-- the command of this ticket at the dispenser has moved all that it was asked for, where it has the result success
abbrev pub SucceedsInFull : State → State → Ticket → Type 0
SucceedsInFull before now t = All (λ a. is_at t a ≡ true → IsFulfilled before.seen.guard now.seen.guard a) (queue_at now Cash)

-- the command of this ticket at the dispenser waits
abbrev pub IsWaitingAt : State → Ticket → Type 0
IsWaitingAt s t = All (λ a. is_at t a ≡ true → is_waiting a.stage ≡ true) (queue_at s Cash)

-- the command of this ticket at the dispenser runs
abbrev pub IsRunningAt : State → Ticket → Type 0
IsRunningAt s t = All (λ a. is_at t a ≡ true → is_running a.stage ≡ true) (queue_at s Cash)

-- a command of this ticket waits at first, and runs behind each step since
pub data RunsSince (start : State) (t : Ticket) : State → Type 0 where
  waits : IsWaitingAt start t → RunsSince start t start
  runs : {s : State} → RunsSince start t s → (event : Event) (answer : Answer) (new : State) → Step s event answer new → IsRunningAt new t → RunsSince start t new
