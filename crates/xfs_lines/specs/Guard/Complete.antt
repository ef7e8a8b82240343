-- A dispense that its token covers, and a present behind it, are answered `moved` with all of their notes, where no count of faults rises.
use Rattle.std.specs.Prelude.{◌≡◌, ◌+◌, ℕ, List, [], ◌∷◌, ◌++◌, sum, codes, Some}
use Rattle.xfs_base.specs.Counts.{at, IsZero}
use Rattle.xfs_base.specs.declared.counts.Counts.{Counts as CountsOf}
pub use Rattle.xfs_guard.specs.Covered.{HasSpace, IsGood, IsFree, IsBindable, IsCoveredBy, CanDispense, CanPresent}
use Rattle.xfs_dispenser.specs.Complete as Of
use Rattle.xfs_script.specs.Counts.{counts_text}
use Rattle.xfs_script.specs.declared.guard_line.Given.{Given}
use Rattle.xfs_script.specs.declared.guard_line.GuardLine.{GuardLine}
use Rattle.xfs_script.specs.declared.guard_line.GuardLine.TheVariants.{Dispense, Present}
use Rattle.xfs_lines.specs.Guard.States.{GuardState, guard_of}
use Rattle.xfs_lines.specs.Guard.Dispenses.{named}
use Rattle.xfs_lines.specs.Guard.Verbs.{AnswersGuard}

-- no count of faults rose
abbrev pub IsCalm : GuardState → GuardState → Type 0
IsCalm s next = Of.IsCalm (guard_of s) (guard_of next)

-- the line that tells that these notes were moved, and that nothing failed
abbrev pub moved_line : CountsOf → List ℕ
moved_line counts = codes "moved" ++ codes " " ++ counts_text counts

-- exactly these notes went from the units to the transport, the line tells them, and where the outlet is empty nothing stands against a present
pub record IsDispensed (s : GuardState) (counts : CountsOf) (output : List (List ℕ)) (next : GuardState) : Type 0 where
  pub text : output ≡ moved_line counts ∷ []
  pub gained : (u : ℕ) → at next.guard.places.transport u ≡ at s.guard.places.transport u + at counts u
  pub given : (u : ℕ) → at next.guard.places.units u + at counts u ≡ at s.guard.places.units u
  pub outlet : (u : ℕ) → at next.guard.places.outlet u ≡ at s.guard.places.outlet u
  pub ready : sum next.guard.places.outlet.0 ≡ 0 → CanPresent next.guard

-- the whole transport went into the outlet, and the line tells its notes
pub record IsPresented (s : GuardState) (output : List (List ℕ)) (next : GuardState) : Type 0 where
  pub text : output ≡ moved_line s.guard.places.transport ∷ []
  pub gained : (u : ℕ) → at next.guard.places.outlet u ≡ at s.guard.places.outlet u + at s.guard.places.transport u
  pub left : IsZero next.guard.places.transport

-- a dispense and a present that nothing stands against are answered in full, where no count of faults rises
pub record IsComplete (s : GuardState) (verb : GuardLine) (output : List (List ℕ)) (next : GuardState) : Type 0 where
  pub dispense : (given : Given) (counts : CountsOf) (bytes : List ℕ) → verb ≡ Dispense given counts → named s.last given ≡ Some bytes → CanDispense s.guard bytes counts → IsCalm s next
      → IsDispensed s counts output next
  pub present : verb ≡ Present → CanPresent s.guard → IsCalm s next → IsPresented s output next

-- a line of `guard`, what answers it, in full where nothing stands against it, and the state then
pub record AnswersInFull (s : GuardState) (text : List ℕ) (output : List (List ℕ)) (next : GuardState) : Type 0 where
  pub answers : AnswersGuard s text output next
  pub complete : IsComplete s answers.verb output next
