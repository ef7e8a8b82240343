-- A line that answers a verb, and want of memory for it.
use Rattle.std.proofs.Common.{◌≡◌, ◌≢◌, ℕ, List, Ok, Err, inl, inr, sym, ◌∙◌}
use Rattle.std.specs.Prelude.{IfOk, OnErr}
use Rattle.std.specs.declared.result.Result.{Result}
use Rattle.xfs_guard.specs.declared.fail.BootFault.{BootFault}
use Rattle.xfs_script.specs.Answered.{IsAnswerText}
use Rattle.xfs_script.specs.declared.guard_line.GuardLine.{GuardLine}
use Rattle.xfs_lines.specs.Guard.Begun.{LeavesOfVerb, WholeOrNone}
use Rattle.xfs_lines.specs.Guard.States.{GuardState}
use Rattle.xfs_lines.specs.Guard.Verbs.{AreGuardAnswer, IsGuardAnswer}
use Rattle.xfs_lines.specs.Guard.Lined.{IsLined}
use Rattle.xfs_lines.specs.Guard.Restarts.{IfUnbooted}
use Rattle.xfs_lines.specs.declared.commands.guard.player.NoAnswer.{NoAnswer}
use Rattle.xfs_lines.specs.declared.commands.guard.player.NoAnswer.TheVariants.{Memory, Unbooted}
use Rattle.xfs_lines.proofs.BegunLaws.{tells-line, verb-leaves}

-- the line that was read stands for this verb, whose answer it is
pub lined-answer : {A E : Type 0} (text : Result A E) (line : Result A NoAnswer) (items : A → List ℕ) (s next : GuardState) (verb given : GuardLine) → given ≡ verb
    → IfOk text (λ t. IsGuardAnswer s verb (items t) next) → IsLined text line items → IfOk line (λ l. IsAnswerText (AreGuardAnswer s given) (items l) next)
lined-answer (Ok t) (Ok l) items s next verb given is answer lined = tells-line s next verb given (items t) (items l) is answer lined
lined-answer (Ok t) (Err why) items s next verb given is answer lined = tt
lined-answer (Err e) (Ok l) items s next verb given is answer lined = absurd lined
lined-answer (Err e) (Err why) items s next verb given is answer lined = tt

-- without a line, what was done of the verb is left
pub lined-leaves : {A E : Type 0} (text : Result A E) (items : A → List ℕ) (s next : GuardState) (verb given : GuardLine) → given ≡ verb
    → IfOk text (λ t. IsGuardAnswer s verb (items t) next) → OnErr text (LeavesOfVerb s verb next) → LeavesOfVerb s given next
lined-leaves (Ok t) items s next verb given is answer leaves = verb-leaves s next verb given is (inl (inr (items t, answer)))
lined-leaves (Err e) items s next verb given is answer leaves = verb-leaves s next verb given is leaves

-- the same of a verb that is done whole or not at all
pub lined-whole : {A E : Type 0} (text : Result A E) (items : A → List ℕ) (s next : GuardState) (verb given : GuardLine) → given ≡ verb
    → IfOk text (λ t. IsGuardAnswer s verb (items t) next) → OnErr text (WholeOrNone s verb next) → LeavesOfVerb s given next
lined-whole (Ok t) items s next verb given is answer leaves = verb-leaves s next verb given is (inl (inr (items t, answer)))
lined-whole (Err e) items s next verb given is answer leaves = verb-leaves s next verb given is (inl leaves)

other-fault : (why : NoAnswer) (fault : BootFault) → why ≡ Memory → why ≢ Unbooted fault
other-fault why fault memory unbooted = clash (sym memory ∙ unbooted)
  where
    clash : Memory ≡ Unbooted fault → ⊥
    clash e = cc

-- it is no refused restart
pub lined-booted : {A E : Type 0} (text : Result A E) (line : Result A NoAnswer) (items : A → List ℕ) (Then : BootFault → Type 0) → IsLined text line items → IfUnbooted line Then
lined-booted (Ok t) (Ok l) items Then lined = λ fault is. cc
lined-booted (Ok t) (Err why) items Then lined = λ fault is. absurd (other-fault why fault lined (let e : why ≡ Unbooted fault = cc in e))
lined-booted (Err e) (Ok l) items Then lined = absurd lined
lined-booted (Err e) (Err why) items Then lined = λ fault is. absurd (other-fault why fault lined (let e : why ≡ Unbooted fault = cc in e))
