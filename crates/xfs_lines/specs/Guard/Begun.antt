-- What want of memory leaves of a line of `guard`, whose answer is not written then.
use Rattle.std.specs.Prelude.{◌≡◌, ◌≤◌, ◌⊎◌, ℕ, false, List, length, Ok, None}
use Rattle.std.specs.declared.option.Option.{Option}
use Rattle.xfs_base.specs.declared.counts.Counts.{Counts as CountsOf}
use Rattle.xfs_mech.specs.Mechanism.{CanLoad}
use Rattle.xfs_mech.specs.declared.motion.Motion.TheVariants.{Loaded}
use Rattle.xfs_mech.specs.declared.motion.Outcome.{Outcome}
use Rattle.xfs_guard.specs.Fits.{unfit}
use Rattle.xfs_guard.specs.Reports.{HasReported}
use Rattle.xfs_guard.specs.declared.ask.Ask.{Ask}
use Rattle.xfs_dispenser.specs.Carried.{StacksFirst}
use Rattle.xfs_dispenser.specs.declared.grant.Grant.{Grant}
use Rattle.xfs_script.specs.Guard.{IsGuardLine}
use Rattle.xfs_script.specs.declared.guard_line.GuardLine.{GuardLine}
use Rattle.xfs_script.specs.declared.guard_line.GuardLine.TheVariants.{Dispense, Fill, Restart}
use Rattle.xfs_lines.specs.Guard.States.{GuardState, Becomes, guard_of}
use Rattle.xfs_lines.specs.Guard.Moves.{MechCalled, Moves}
use Rattle.xfs_lines.specs.Guard.Dispenses.{IsAllowed, named}
use Rattle.xfs_lines.specs.Guard.Verbs.{AnswersGuard, IsGuardAnswer, IsLoaded}
use Rattle.xfs_lines.specs.Guard.Restarts.{RestartFails}
use Rattle.xfs_guard.specs.declared.fail.BootFault.{BootFault}
use Rattle.xfs_script.specs.declared.feed.TheConstants.{LONGEST_LINE}

-- nothing was done; or all of it, and the line that answers it was not written
abbrev pub AllOrNothing : (List ℕ → GuardState → Type 0) → GuardState → GuardState → Type 0
AllOrNothing Answer s end = (end ≡ s) ⊎ ((line : List ℕ) × Answer line end)

-- nothing was done of an order of all the notes of a place; or all of it, and its line was not written
abbrev pub MovesOrNot : GuardState → Ask → GuardState → Type 0
MovesOrNot s ask end = AllOrNothing (Moves s ask) s end

-- nothing was done of a verb of `guard`; or all of it, and its line was not written
abbrev pub WholeOrNone : GuardState → GuardLine → GuardState → Type 0
WholeOrNone s verb end = AllOrNothing (IsGuardAnswer s verb) s end

-- a dispense was allowed, and the orders of its first units were carried out
pub record IsPartDispensed (s : GuardState) (token : Option (List ℕ)) (counts : CountsOf) (end : GuardState) : Type 0 where
  pub grant : Grant
  pub bound : GuardState
  pub allowed : IsAllowed s token counts (Ok grant) bound
  pub first : StacksFirst grant.issue grant.counts.0 (guard_of bound) (guard_of end)
  pub last_is : end.last ≡ bound.last

-- the notes of a `fill` were loaded, and nothing was written down of it
pub record IsPartFilled (s : GuardState) (unit count : ℕ) (end : GuardState) : Type 0 where
  pub can : CanLoad s.guard.units s.guard.places unit count
  pub fit : unfit s.guard ≡ None
  pub outcome : Outcome
  pub reported : HasReported s.guard end.guard (Loaded unit count) outcome.moved outcome.diverted outcome.failed
  pub called : MechCalled s outcome.failed end
  pub fine : outcome.failed ≡ false

-- a part of a verb was done: of a dispense and of a `fill` as above; of a `restart` the disk was called, and the guard is as it was
abbrev pub IsPartDone : GuardState → GuardLine → GuardState → Type 0
IsPartDone s (Dispense token counts) end = IsPartDispensed s (named s.last token) counts end
IsPartDone s (Fill unit count) end = IsPartFilled s unit count end
IsPartDone s Restart end = Becomes s s.guard end
IsPartDone s other end = ⊥

-- what want of memory leaves of a loading
abbrev pub LeavesOfLoad : GuardState → ℕ → ℕ → GuardState → Type 0
LeavesOfLoad s unit count end = AllOrNothing (IsLoaded s unit count) s end ⊎ IsPartFilled s unit count end

-- the verb is `restart`, and that was refused for this
abbrev pub FailsRestart : GuardState → GuardLine → BootFault → GuardState → Type 0
FailsRestart s verb fault end = (verb ≡ Restart) × RestartFails s fault end

-- what want of memory leaves of a verb
abbrev pub LeavesOfVerb : GuardState → GuardLine → GuardState → Type 0
LeavesOfVerb s verb end = WholeOrNone s verb end ⊎ IsPartDone s verb end

-- all was done that the line asks for
pub record IsCarriedOut (s : GuardState) (text : List ℕ) (end : GuardState) : Type 0 where
  pub output : List (List ℕ)
  pub answered : AnswersGuard s text output end

-- a part was done
pub record IsBrokenOff (s : GuardState) (text : List ℕ) (end : GuardState) : Type 0 where
  pub verb : GuardLine
  pub reads : IsGuardLine text verb
  pub short : length text ≤ LONGEST_LINE
  pub part : IsPartDone s verb end

-- what want of memory leaves of a line: nothing of it was done, or all of it, or a part
abbrev pub IsBegun : GuardState → List ℕ → GuardState → Type 0
IsBegun s text end = (end ≡ s) ⊎ (IsCarriedOut s text end ⊎ IsBrokenOff s text end)
