-- A dispense that its token covers, and a present behind it, are begun and done in full, where no count of faults rises.
use Rattle.std.specs.Prelude.{◌≡◌, ◌≤◌, ◌+◌, ◌*◌, ℕ, zero, suc, Bool, false, List, length, sum, Some, Ok}
use Rattle.xfs_base.specs.Causes.{Rose}
use Rattle.xfs_base.specs.Counts.{at, IsZero}
use Rattle.xfs_base.specs.declared.counts.Counts.{Counts as CountsOf}
use Rattle.xfs_envelope.specs.declared.code.Code.TheVariants.{Success}
use Rattle.xfs_guard.specs.Covered.{CanDispense, CanPresent}
use Rattle.xfs_guard.specs.View.{View}
use Rattle.xfs_guard.specs.declared.ask.Ask.TheVariants as Ask
use Rattle.xfs_guard.specs.declared.open.Open.TheVariants.{No}
use Rattle.xfs_mix.specs.Mix.{IsMix}
use Rattle.xfs_dispenser.specs.Answers.{Start, Went, planned, more, done, plain_answer}
use Rattle.xfs_dispenser.specs.Begins.{Begins}
use Rattle.xfs_dispenser.specs.Denominations.{NotesGiven, denomination_answer}
use Rattle.xfs_dispenser.specs.Plans.{dispense_plan, order_plan}
use Rattle.xfs_dispenser.specs.Seen.{Seen}
use Rattle.xfs_dispenser.specs.Steps.{Works}
use Rattle.xfs_dispenser.specs.declared.ask.CashAsk.TheVariants.{Dispense, Present}
use Rattle.xfs_dispenser.specs.declared.named.Named.TheVariants.{These}
use Rattle.xfs_dispenser.specs.declared.notes.Notes.{Notes}
use Rattle.xfs_dispenser.specs.declared.notes.Notes.TheVariants.{Least, Individual}
use Rattle.xfs_dispenser.specs.declared.plan.Plan.{Plan}

-- no count of faults rose
pub record IsCalm (s next : Seen) : Type 0 where
  pub mech : ¬ (Rose s.guard.faults next.guard.faults)
  pub disk : ¬ (Rose s.disk_faults next.disk_faults)

-- counts are asked for by unit, or are a mix for the amount that is asked for
abbrev pub AreAsked : View → Notes → CountsOf → Type 0
AreAsked v (Individual named) counts = named ≡ These counts
AreAsked v (Least currency amount) counts = (1 ≤ amount) × (amount ≤ 1000000) × IsMix v.units v.places.units currency amount counts

-- nothing stands against a dispense of some counts that are asked for
pub record CanGive (v : View) (notes : Notes) (token : List ℕ) : Type 0 where
  pub counts : CountsOf
  pub asked : AreAsked v notes counts
  pub can : CanDispense v token counts

-- what follows a step: nothing behind an answer
abbrev pub FollowsTurn : (Seen → Plan → Seen → Went → Type 0) → Seen → Plan → Went → Seen → Went → Type 0
FollowsTurn Later s plan (done answer) next went = (next ≡ s) × (went ≡ done answer)
FollowsTurn Later s plan more next went = Later s plan next went

-- the first step of a plan, and what follows it
pub record Turn (Later : Seen → Plan → Seen → Went → Type 0) (s : Seen) (plan : Plan) (next : Seen) (went : Went) : Type 0 where
  pub middle : Seen
  pub after : Plan
  pub first : Went
  pub works : Works s plan middle after first
  pub later : FollowsTurn Later middle after first next went

-- a plan is worked on so many times, or until it has its answer
abbrev pub WorksTurns : ℕ → Seen → Plan → Seen → Went → Type 0
WorksTurns zero s plan next went = (next ≡ s) × (went ≡ more)
WorksTurns (suc n) s plan next went = Turn (WorksTurns n) s plan next went

-- all notes of a dispense went from the units to the transport, the answer tells them, and where the outlet is empty nothing stands against a present
pub record IsGiven (s : Seen) (counts : CountsOf) (next : Seen) (went : Went) : Type 0 where
  pub is : went ≡ done (denomination_answer s.guard.units counts)
  pub gained : (u : ℕ) → at next.guard.places.transport u ≡ at s.guard.places.transport u + at counts u
  pub given : (u : ℕ) → at next.guard.places.units u + at counts u ≡ at s.guard.places.units u
  pub outlet : (u : ℕ) → at next.guard.places.outlet u ≡ at s.guard.places.outlet u
  pub ready : sum next.guard.places.outlet.0 ≡ 0 → CanPresent next.guard

-- the whole transport went into the outlet
pub record IsPresented (s next : Seen) (went : Went) : Type 0 where
  pub is : went ≡ done (plain_answer Success)
  pub gained : (u : ℕ) → at next.guard.places.outlet u ≡ at s.guard.places.outlet u + at s.guard.places.transport u
  pub left : IsZero next.guard.places.transport

-- a dispense has its plan, which three steps for each of its units do in full
pub record IsBegunInFull (s : Seen) (notes : Notes) (bound : Seen) (start : Start) : Type 0 where
  pub issue : ℕ
  pub counts : CountsOf
  pub given : NotesGiven s.guard.units s.guard.places.units notes (Ok counts)
  pub plan : start ≡ planned (dispense_plan issue counts)
  pub done : (next : Seen) (went : Went) → IsCalm bound next → WorksTurns (3 * length (dispense_plan issue counts).parts.items) bound (dispense_plan issue counts) next went → IsGiven s counts next went

-- what is done where nothing stands against it and no count of faults rises
pub record IsComplete : Type 0 where
  pub dispense : (s bound : Seen) (notes : Notes) (token : List ℕ) (after : Bool) (start : Start) → s.guard.open_order ≡ No → CanGive s.guard notes token → IsCalm s bound
      → Begins s false (Dispense notes (Some token)) bound after start → IsBegunInFull s notes bound start
  pub present : (s begun next : Seen) (after : Bool) (start : Start) (went : Went) → s.guard.open_order ≡ No → CanPresent s.guard → IsCalm s next
      → Begins s false Present begun after start → WorksTurns 3 begun (order_plan Ask.Present) next went → (start ≡ planned (order_plan Ask.Present)) × (begun ≡ s) × IsPresented s next went
