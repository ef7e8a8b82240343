-- A Dispense that its token covers, and a Present behind it, complete with success.
use Rattle.std.specs.Prelude.{◌≡◌, ◌≤◌, ◌+◌, ◌*◌, ◌++◌, ℕ, length, sum, List, [], ◌∷◌, Some, Ok}
use Rattle.xfs_base.specs.Counts.{at, IsZero}
use Rattle.xfs_base.specs.declared.counts.Counts.{Counts}
use Rattle.xfs_base.specs.declared.counts.Kind.TheVariants as Kind
use Rattle.xfs_base.specs.declared.moment.Service.TheVariants.{Cash}
use Rattle.xfs_dispenser.specs.Answers.{CashAnswer, done, plain_answer}
use Rattle.xfs_dispenser.specs.Complete.{CanGive, IsGiven, IsPresented}
use Rattle.xfs_dispenser.specs.Denominations.{NotesGiven, denomination_answer}
use Rattle.xfs_dispenser.specs.Seen.{Seen}
use Rattle.xfs_dispenser.specs.Units.{units_with}
use Rattle.xfs_dispenser.specs.declared.ask.CashAsk.TheVariants.{Dispense, Present}
use Rattle.xfs_dispenser.specs.declared.notes.Notes.{Notes}
use Rattle.xfs_envelope.specs.declared.code.Code.TheVariants.{Success}
use Rattle.xfs_guard.specs.Covered.{CanPresent}
use Rattle.xfs_mech.specs.Mechanism.{AddsEntry}
use Rattle.xfs_mech.specs.declared.motion.Motion.TheVariants.{Moved}
use Rattle.xfs_model.specs.Frames.{IsCompletion}
use Rattle.xfs_model.specs.State.{State, queue_at, with_queue}
use Rattle.xfs_withdrawals.specs.Posted.{IsPosted}
use Rattle.xfs_withdrawals.specs.Turning.{IsConnected, IsIdle, IsNext, Turning}

-- a Dispense of these notes with this token is next and is turned, and nothing stands against it
pub record IsDispensable (t : Turning) (notes : Notes) (token : List ℕ) : Type 0 where
  pub next : IsNext t.start t.command (Dispense notes (Some token)) t.waiting
  pub covered : CanGive t.start.seen.guard notes token
  pub turned : 1 ≤ t.turns

-- a Present is next, and nothing stands against it
pub record IsPresentable (t : Turning) : Type 0 where
  pub next : IsNext t.start t.command Present t.waiting
  pub ready : CanPresent t.start.seen.guard

-- all but the guard, the exchange, the moment, the frames that wait and the commands of the dispenser is as it was
pub record IsBeside (s last : State) : Type 0 where
  pub life : last.life ≡ s.life
  pub issued : last.issued ≡ s.issued
  pub boot : last.boot ≡ s.boot
  pub slot : last.slot ≡ s.slot
  pub keypad : last.keypad ≡ s.keypad
  pub given : last.given ≡ s.given
  pub queues : with_queue last.queues Cash [] ≡ with_queue s.queues Cash []

-- the command is no longer pending; one completion came, with this answer, and nothing else, beside what waited before: its client was handed it, or it waits
pub record IsCompleted (t : Turning) (answer : CashAnswer) : Type 0 where
  pub over : IsIdle t.last
  pub beside : IsBeside t.start t.last
  pub completion : List ℕ
  pub completes : IsCompletion t.command.id t.command.job.name answer.code answer.payload completion
  pub left : List (List ℕ)
  pub connected : IsConnected t.last t.command.client left
  pub all : t.frames ++ left ≡ t.waiting ++ completion ∷ []

-- a Dispense is completed with success, and these notes went from the units to the transport
pub record IsDispensedInFull (t : Turning) (counts : Counts) : Type 0 where
  pub completed : IsCompleted t (denomination_answer t.start.seen.guard.units counts)
  pub moved : IsGiven t.start.seen counts t.last.seen (done (denomination_answer t.start.seen.guard.units counts))

-- a Dispense gives some notes that were asked for; it is done in two turns, and three for each unit that gives some
pub record IsPaidOut (t : Turning) (notes : Notes) : Type 0 where
  pub counts : Counts
  pub given : NotesGiven t.start.seen.guard.units t.start.seen.guard.places.units notes (Ok counts)
  pub in_full : 2 + 3 * length (units_with counts.0) ≤ t.turns → IsDispensedInFull t counts

-- the mechanism's list, where it tells one, gains one entry: that a Present, by the number of its record, moved all that lay on the transport
pub record IsShown (s next : Seen) : Type 0 where
  pub diverted : Counts
  pub none : IsZero diverted
  pub entry : AddsEntry s.guard.motions (Moved (length s.guard.records + 1) Kind.Present s.guard.places.transport diverted) next.guard.motions

-- a Present is completed with success, and the whole transport went into the outlet
pub record IsPutOut (t : Turning) : Type 0 where
  pub shown : IsShown t.start.seen t.last.seen
  pub completed : IsCompleted t (plain_answer Success)
  pub moved : IsPresented t.start.seen t.last.seen (done (plain_answer Success))

-- a Dispense is turned; then a Present is posted while the outlet is empty, and is turned at least five times
pub record Withdrawal : Type 0 where
  pub dispense : Turning
  pub present : Turning
  pub posted : IsPosted Present dispense.last present.start
  pub pending : queue_at present.start Cash ≡ present.command ∷ []
  pub connected : IsConnected present.start present.command.client present.waiting
  pub empty : sum present.start.seen.guard.places.outlet.0 ≡ 0
  pub enough : 5 ≤ present.turns

-- Dispense and Present are completed with success, and in the outlet lie these notes, with what lay on the transport before
pub record IsWithdrawn (w : Withdrawal) (counts : Counts) : Type 0 where
  pub dispensed : IsDispensedInFull w.dispense counts
  pub put_out : IsPutOut w.present
  pub id : w.present.command.id ≡ w.posted.command.id
  pub name : w.present.command.job.name ≡ w.posted.command.name
  pub out : (u : ℕ) → at w.present.last.seen.guard.places.outlet u ≡ at w.dispense.start.seen.guard.places.transport u + at counts u

-- some notes that were asked for are withdrawn, where the Dispense has its turns
pub record IsWholeWithdrawal (w : Withdrawal) (notes : Notes) : Type 0 where
  pub paid : IsPaidOut w.dispense notes
  pub in_full : 2 + 3 * length (units_with paid.counts.0) ≤ w.dispense.turns → IsWithdrawn w paid.counts
