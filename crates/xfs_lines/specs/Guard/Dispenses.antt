-- The line `dispense`: the grant to stack its notes, and its orders, rising by unit.
use Rattle.std.specs.Prelude.{◌≡◌, ◌≢◌, ◌⊎◌, ℕ, List, codes, Some, Ok, Err}
use Rattle.std.specs.declared.option.Option.{Option}
use Rattle.std.specs.declared.result.Result.{Result}
use Rattle.xfs_base.specs.declared.counts.Counts.{Counts as CountsOf}
use Rattle.xfs_mech.specs.declared.motion.Outcome.{Outcome}
use Rattle.xfs_guard.specs.declared.deny.Deny.{Deny}
use Rattle.xfs_dispenser.specs.Carried.{StacksAll}
use Rattle.xfs_dispenser.specs.Checks.{IsGrant}
use Rattle.xfs_dispenser.specs.declared.grant.Grant.{Grant}
use Rattle.xfs_dispenser.specs.declared.named.Named.TheVariants.{These}
use Rattle.xfs_dispenser.specs.declared.notes.Notes.TheVariants.{Individual}
use Rattle.xfs_dispenser.specs.declared.refusal.Refusal.{Refusal}
use Rattle.xfs_dispenser.specs.declared.refusal.Refusal.TheVariants.{Memory as Unremembered}
use Rattle.xfs_script.specs.declared.guard_line.Given.{Given}
use Rattle.xfs_script.specs.declared.guard_line.Given.TheVariants.{Last, Text}
use Rattle.xfs_lines.specs.Output.Refused.{refusal_text}
use Rattle.xfs_lines.specs.Guard.States.{GuardState, guard_of}
use Rattle.xfs_lines.specs.Guard.Moves.{IsOrderLine}

-- the token that a line names: its text, or the one that was minted last
abbrev pub named : Option (List ℕ) → Given → Option (List ℕ)
named last (Text bytes) = Some bytes
named last Last = last

-- the grant to stack these notes on the named token, or why there is none, by the checks of the dispenser
pub record IsAllowed (s : GuardState) (token : Option (List ℕ)) (counts : CountsOf) (result : Result Grant Refusal) (next : GuardState) : Type 0 where
  pub grant : IsGrant (guard_of s) (Individual (These counts)) token result (guard_of next)
  pub last_is : next.last ≡ s.last

-- the grant to stack these notes on the token that a line gives, or why there is none
abbrev pub IsAllowedFor : GuardState → Given → CountsOf → Result Grant Refusal → GuardState → Type 0
IsAllowedFor s given counts result next = IsAllowed s (named s.last given) counts result next

-- where the result is no want of memory, this holds
abbrev pub IfRemembered : Result Grant Refusal → Type 0 → Type 0
IfRemembered result Then = result ≢ Err Unremembered → Then

-- the orders of a dispense that is allowed, and its answer: what was stacked, or what the order that ended it is refused for
pub record IsOrdered (s : GuardState) (token : Option (List ℕ)) (counts : CountsOf) (line : List ℕ) (next : GuardState) : Type 0 where
  pub grant : Grant
  pub bound : GuardState
  pub allowed : IsAllowed s token counts (Ok grant) bound
  pub result : Result Outcome Deny
  pub stacked : StacksAll grant.issue grant.counts (guard_of bound) result (guard_of next)
  pub last_is : next.last ≡ bound.last
  pub told : IsOrderLine (codes "moved") result line

-- the answer to a dispense that is refused before any order
pub record IsRefusedEarly (s : GuardState) (token : Option (List ℕ)) (counts : CountsOf) (line : List ℕ) (next : GuardState) : Type 0 where
  pub refusal : Refusal
  pub refused : IsAllowed s token counts (Err refusal) next
  pub text : refusal_text refusal ≡ Some line

-- the answer to `dispense`
abbrev pub Dispenses : GuardState → Option (List ℕ) → CountsOf → List ℕ → GuardState → Type 0
Dispenses s token counts line next = IsRefusedEarly s token counts line next ⊎ IsOrdered s token counts line next

-- the answer to `dispense` with the token that its line gives
abbrev pub DispensesFor : GuardState → Given → CountsOf → List ℕ → GuardState → Type 0
DispensesFor s given counts line next = Dispenses s (named s.last given) counts line next
