-- How the lines that order notes are answered: the dispenser carries the order out, and the token that was minted last stays.
use Rattle.std.specs.Prelude.{◌≡◌, ℕ, Bool, List, codes, Ok, Err, Some}
use Rattle.std.specs.declared.result.Result.{Result}
use Rattle.xfs_mech.specs.declared.motion.Outcome.{Outcome}
use Rattle.xfs_guard.specs.declared.ask.Ask.{Ask}
use Rattle.xfs_guard.specs.declared.deny.Deny.{Deny}
use Rattle.xfs_dispenser.specs.Carried.{CarriesOut}
use Rattle.xfs_dispenser.specs.Seen as Of
use Rattle.xfs_dispenser.specs.declared.refusal.Refusal.TheVariants.{Deny as Denied}
use Rattle.xfs_lines.specs.Guard.Texts.{outcome_text}
use Rattle.xfs_lines.specs.Output.Refused.{refusal_text}
use Rattle.xfs_lines.specs.Guard.States.{GuardState, guard_of}

-- the mechanism was called, as the dispenser sees it
pub record MechCalled (old : GuardState) (failed : Bool) (new : GuardState) : Type 0 where
  pub called : Of.MechCalled (guard_of old) failed (guard_of new)
  pub last_is : new.last ≡ old.last

-- the answer to an order that is carried out with this result, by this verb
abbrev pub IsOrderLine : List ℕ → Result Outcome Deny → List ℕ → Type 0
IsOrderLine verb (Ok outcome) line = line ≡ outcome_text verb outcome
IsOrderLine verb (Err deny) line = refusal_text (Denied deny) ≡ Some line

-- the line of an order of all the notes of a place
pub record Moves (s : GuardState) (ask : Ask) (line : List ℕ) (next : GuardState) : Type 0 where
  pub result : Result Outcome Deny
  pub carried : CarriesOut (guard_of s) ask result (guard_of next)
  pub last_is : next.last ≡ s.last
  pub told : IsOrderLine (codes "moved") result line
