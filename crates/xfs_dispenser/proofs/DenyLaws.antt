-- What a call of the guard says of its refusal is what a step is told.
use Rattle.std.proofs.Common.{◌≡◌, ◌≢◌, ◌≤◌, ◌⊎◌, Some, None, Ok, Err, inl, inr, refl, sym, ◌∙◌, ap}
use Rattle.std.specs.Prelude.{OnErr}
use Rattle.std.specs.declared.option.Option.{Option}
use Rattle.std.specs.declared.result.Result.{Result}
use Rattle.xfs_base.specs.Causes.{Rose}
use Rattle.xfs_disk.specs.declared.disk.Disk.{Ghosts}
use Rattle.xfs_envelope.specs.declared.code.Code.TheVariants.{DeviceNotReady}
use Rattle.xfs_journal.specs.declared.record.Rec.{Rec}
use Rattle.xfs_guard.specs.Refusals.{Answers}
use Rattle.xfs_guard.specs.View.{GuardView, shut_at}
use Rattle.xfs_guard.specs.declared.deny.Deny.{Deny}
use Rattle.xfs_guard.specs.declared.deny.Deny.TheVariants.{Disk, Memory}
use Rattle.xfs_dispenser.specs.Answers.{IsDenial, CashAnswer, Went, denial, done, plain_answer}
use Rattle.xfs_dispenser.specs.Seen.{seen}
use Rattle.xfs_dispenser.specs.Steps.{IsDenied, FailsToWrite}

-- whether a refusal is the disk's
pub is_disk : (deny : Deny) → (deny ≡ Disk) ⊎ (deny ≢ Disk)
is_disk Disk = inl refl
is_disk deny = inr (λ e. cc)

-- a refusal that is neither the disk's nor want of memory is the one that is due
pub due-some : (T : Type 0) (deny : Deny) (refusal : Option Deny) → Answers {T = T} (Err deny) refusal → deny ≢ Disk → deny ≢ Memory → refusal ≡ Some deny
due-some T Disk refusal answers other some = absurd (other refl)
due-some T Memory refusal answers other some = absurd (some refl)
due-some T deny refusal answers other some = answers

-- the disk's refusal comes where none is due
pub due-disk : (T : Type 0) (deny : Deny) (refusal : Option Deny) → Answers {T = T} (Err deny) refusal → deny ≡ Disk → refusal ≡ None
due-disk T Disk refusal answers is = answers
due-disk T Memory refusal answers is = answers
due-disk T deny refusal answers is = cc

told-some : (deny : Deny) (answer : CashAnswer) → denial deny ≡ Some answer → deny ≢ Memory
told-some deny answer due is = (let e : None ≡ Some answer = sym (ap denial is) ∙ due in cc)

told-disk : (deny : Deny) (answer : CashAnswer) → denial deny ≡ Some answer → deny ≡ Disk → answer ≡ plain_answer DeviceNotReady
told-disk deny answer due is = (let e : Some (plain_answer DeviceNotReady) ≡ Some answer = sym (ap denial is) ∙ due in cc)

-- a record is refused, or the disk fails at it
pub refused-or-unwritten : (T : Type 0) {D : Type 0} (g : Ghosts D) (old new : GuardView D) (refusal : Option Deny) (r : Rec) (deny : Deny) (went : Went)
    → Answers {T = T} (Err deny) refusal → (deny ≡ Disk → new.state ≡ shut_at r old.state) → g.faults old.disk ≤ g.faults new.disk → (deny ≡ Disk → Rose (g.faults old.disk) (g.faults new.disk))
    → (deny ≢ Disk → new ≡ old) → IsDenial deny went → IsDenied (seen g old) refusal (seen g new) went ⊎ FailsToWrite (seen g old) refusal r (seen g new) went
refused-or-unwritten T g old new refusal r deny went answers disk later cause same told = elim (is_disk deny) [
  | inl is ↦ inr (record {
    free = due-disk T deny refusal answers is;
    fails = record { becomes = record { guard_is = disk is; later = later }; cause = cause is };
    is = told.is ∙ ap done (told-disk deny told.answer told.due is);
  })
  | inr other ↦ inl (record {
    deny = deny;
    first = due-some T deny refusal answers other (told-some deny told.answer told.due);
    answer = told.answer;
    due = told.due;
    same = ap (seen g) (same other);
    is = told.is;
  })
]

-- what holds on an error still does, and what follows from it
pub on-err : {T E : Type 0} {P Q : Type 0} (r : Result T E) → (P → Q) → OnErr r P → OnErr r Q
on-err (Ok x) f h = tt
on-err (Err e) f h = f h
