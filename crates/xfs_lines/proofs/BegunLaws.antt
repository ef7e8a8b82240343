-- What a method that wants memory leaves of its verb, and of its line.
use Rattle.std.proofs.Common.{◌≡◌, ◌≢◌, ◌≤◌, ◌⊎◌, ℕ, false, List, [], ◌∷◌, ◌++◌, length, None, Some, Ok, Err, inl, inr, refl, sym, subst, ◌∙◌, ap}
use Rattle.std.specs.Prelude.{OnErr, codes}
use Rattle.std.specs.declared.option.Option.{Option}
use Rattle.std.specs.declared.result.Result.{Result}
use Rattle.xfs_base.specs.declared.counts.Counts.{Counts as CountsOf}
use Rattle.xfs_mech.specs.Mechanism.{CanLoad}
use Rattle.xfs_mech.specs.declared.motion.Motion.TheVariants.{Loaded}
use Rattle.xfs_mech.specs.declared.motion.Outcome.{Outcome}
use Rattle.xfs_journal.specs.declared.record.Rec.TheVariants.{Clear}
use Rattle.xfs_token.specs.Amounts.{IsMade}
use Rattle.xfs_guard.specs.Fits.{unfit}
use Rattle.xfs_guard.specs.Reports.{HasReported}
use Rattle.xfs_guard.specs.View.{GuardView}
use Rattle.xfs_guard.specs.declared.nonce.Nonce.{Nonce}
use Rattle.xfs_guard.specs.declared.deny.Deny.{Deny}
use Rattle.xfs_guard.specs.declared.deny.Deny.TheVariants.{Disk, Memory}
use Rattle.xfs_script.specs.Guard.{IsGuardLine}
use Rattle.xfs_script.specs.declared.guard_line.GuardLine.{GuardLine}
use Rattle.xfs_script.specs.declared.guard_line.GuardLine.TheVariants.{Skip, Issue, Mint, Dispense, Fill, Present, Reject, Retract, Take, Restart, Show}
use Rattle.xfs_script.specs.declared.guard_line.GuardLine.TheVariants as Verb
use Rattle.xfs_script.specs.Answered.{lines_text, IsAnswerText}
use Rattle.xfs_lines.specs.Guard.Begun.{AllOrNothing, IsBegun, IsPartDispensed, IsPartFilled, LeavesOfVerb}
use Rattle.xfs_lines.specs.Guard.Dispenses.{Dispenses, IsAllowed}
use Rattle.xfs_lines.specs.Guard.Moves.{MechCalled}
use Rattle.xfs_lines.specs.Output.Refused.{refusal_text}
use Rattle.xfs_lines.specs.Guard.States.{GuardState, guard_of, guard_state}
use Rattle.xfs_lines.specs.Guard.Verbs.{AreGuardAnswer, Clears, Fills, IsGuardAnswer, IsLoaded, Mints}
use Rattle.xfs_dispenser.specs.Carried.{StacksAll, StacksFirst}
use Rattle.xfs_dispenser.specs.declared.grant.Grant.{Grant}
use Rattle.xfs_dispenser.specs.declared.refusal.Refusal.{Refusal}
use Rattle.xfs_dispenser.specs.declared.refusal.Refusal.TheVariants.{Deny as Denied}
use Rattle.xfs_dispenser.proofs.CarryLaws.{err-same}
use Rattle.xfs_lines.proofs.GuardStateLaws.{seen-same, told-some, wrote-kept}

-- a refusal of the guard has no text where it is want of memory, and only there
no-text : (deny : Deny) → refusal_text (Denied deny) ≡ None → deny ≡ Memory
no-text Memory e = refl
no-text deny e = cc

pub denied-text : (deny : Deny) → (deny ≡ Memory) ⊎ ((line : List ℕ) × (refusal_text (Denied deny) ≡ Some line))
denied-text deny = go (refusal_text (Denied deny)) refl
  where
    go : (text : Option (List ℕ)) → refusal_text (Denied deny) ≡ text → (deny ≡ Memory) ⊎ ((line : List ℕ) × (refusal_text (Denied deny) ≡ Some line))
    go None e = inl (no-text deny e)
    go (Some line) e = inr (line, e)

-- a refusal without a text isn't the disk's
not-disk-told : (r : Refusal) → refusal_text r ≡ None → r ≢ Denied Disk
not-disk-told r none is = (let e : None ≡ refusal_text (Denied Disk) = sym none ∙ ap refusal_text is in cc)

-- a refusal that isn't the disk's changed nothing, and one with a text has its line
pub refused-or-nothing : (Answer : List ℕ → GuardState → Type 0) (s end : GuardState) (r : Refusal) → (r ≢ Denied Disk → end ≡ s) → ((line : List ℕ) → refusal_text r ≡ Some line → Answer line end) → AllOrNothing Answer s end
refused-or-nothing Answer s end r same told = go (refusal_text r) refl
  where
    go : (text : Option (List ℕ)) → refusal_text r ≡ text → AllOrNothing Answer s end
    go None e = inl (same (not-disk-told r e))
    go (Some line) e = inr (line, told line e)

-- the same of a refusal by the guard
pub denied-or-nothing : {D : Type 0} (faults : D → ℕ) (old new : GuardView D) (last : Option (List ℕ)) (Answer : List ℕ → GuardState → Type 0) (deny : Deny)
    → (deny ≢ Disk → new ≡ old) → ((line : List ℕ) → refusal_text (Denied deny) ≡ Some line → Answer line (guard_state faults new last)) → AllOrNothing Answer (guard_state faults old last) (guard_state faults new last)
denied-or-nothing faults old new last Answer deny same told =
    refused-or-nothing Answer (guard_state faults old last) (guard_state faults new last) (Denied deny) (λ other. seen-same faults old new last (same (λ is. other (ap (λ d. Denied d) is)))) told

pub verb-leaves : (s end : GuardState) (verb given : GuardLine) → given ≡ verb → LeavesOfVerb s verb end → LeavesOfVerb s given end
verb-leaves s end verb given is leaves = rw is leaves

-- a line that answers a verb is all of its answer
one-line : (s next : GuardState) (verb : GuardLine) (line : List ℕ) → IsGuardAnswer s verb line next → AreGuardAnswer s verb (line ∷ []) next
one-line s next Skip line is = absurd is
one-line s next Issue line is = record { line = line; is = is; only = refl }
one-line s next Verb.Clear line is = record { line = line; is = is; only = refl }
one-line s next (Mint amounts) line is = record { line = line; is = is; only = refl }
one-line s next (Dispense token counts) line is = record { line = line; is = is; only = refl }
one-line s next (Fill unit count) line is = record { line = line; is = is; only = refl }
one-line s next Present line is = record { line = line; is = is; only = refl }
one-line s next Reject line is = record { line = line; is = is; only = refl }
one-line s next Retract line is = record { line = line; is = is; only = refl }
one-line s next Take line is = record { line = line; is = is; only = refl }
one-line s next Restart line is = record { line = line; is = is; only = refl }
one-line s next Show line is = absurd is

-- its bytes, where it is ended by a line feed
pub tells-line : (s next : GuardState) (verb given : GuardLine) (line bytes : List ℕ) → given ≡ verb → IsGuardAnswer s verb line next → bytes ≡ lines_text (line ∷ []) → IsAnswerText (AreGuardAnswer s given) bytes next
tells-line s next verb given line bytes is answer text = rw is (record { output = line ∷ []; answer = one-line s next verb line answer; text = text })

-- what is left of a verb is left of the line that reads as it
pub begun-line : (s end : GuardState) (text : List ℕ) (verb : GuardLine) → IsGuardLine text verb → length text ≤ 70000 → LeavesOfVerb s verb end → IsBegun s text end
begun-line s end text verb reads short (inl (inl same)) = inl same
begun-line s end text verb reads short (inl (inr told)) =
    inr (inl (record { output = told.0 ∷ []; answered = record { verb = verb; reads = reads; short = short; answer = one-line s end verb told.0 told.1 } }))
begun-line s end text verb reads short (inr part) = inr (inr (record { verb = verb; reads = reads; short = short; part = part }))

-- a load that isn't noted for want of memory
pub part-filled : {D : Type 0} (faults : D → ℕ) (old loaded new : GuardView D) (last : Option (List ℕ)) (unit count : ℕ) (outcome : Outcome) → CanLoad old.state.units old.state.places unit count → unfit old.state ≡ None
    → HasReported old.state loaded.state (Loaded unit count) outcome.moved outcome.diverted outcome.failed → MechCalled (guard_state faults old last) outcome.failed (guard_state faults loaded last)
    → outcome.failed ≡ false → new ≡ loaded → IsPartFilled (guard_state faults old last) unit count (guard_state faults new last)
part-filled {D} faults old loaded new last unit count outcome can fit reported called fine same =
    let here : IsPartFilled (guard_state faults old last) unit count (guard_state faults loaded last) = record { can = can; fit = fit; outcome = outcome; reported = reported; called = called; fine = fine } in
    subst (λ (g : GuardView D). IsPartFilled (guard_state faults old last) unit count (guard_state faults g last)) (sym same) here

-- what a load leaves, its `fill` leaves
pub loads-fills : {T E : Type 0} (result : Result T E) (s end : GuardState) (unit count : ℕ) → OnErr result (AllOrNothing (IsLoaded s unit count) s end ⊎ IsPartFilled s unit count end)
    → OnErr result (AllOrNothing (Fills s unit count) s end ⊎ IsPartFilled s unit count end)
loads-fills (Ok x) s end unit count leaves = tt
loads-fills (Err e) s end unit count (inl (inl same)) = inl (inl same)
loads-fills (Err e) s end unit count (inl (inr told)) = inl (inr (told.0, inr told.1))
loads-fills (Err e) s end unit count (inr part) = inr part

-- a clear that is kept
pub clear-done : {D : Type 0} (faults : D → ℕ) (old new : GuardView D) (last : Option (List ℕ)) (live : Option Nonce) → live ≢ None → unfit old.state ≡ None
    → new.state ≡ record old.state { records = old.state.records ++ Clear ∷ []; bound = None } → faults old.disk ≤ faults new.disk → Clears live (guard_state faults old last) (codes "cleared") (guard_state faults new last)
clear-done faults old new last (Some n) some fit is later = wrote-kept (guard_state faults old last) (guard_state faults new last) (unfit old.state) Clear _ _ _ fit is later refl refl
clear-done faults old new last None some fit is later = absurd (some refl)

-- a mint for no nonce
pub mints-none : (s : GuardState) (live : Option Nonce) (amounts : List (List ℕ × ℕ)) → live ≡ None → Mints live s amounts (codes "token none") (record s { last = None })
mints-none s None amounts none = (refl, refl)
mints-none s (Some n) amounts none = cc

-- a mint for this nonce
pub mints-made : (s : GuardState) (live : Option Nonce) (nonce : Nonce) (amounts : List (List ℕ × ℕ)) (key token last : List ℕ) → live ≡ Some nonce → key ≡ s.guard.key → IsMade key nonce.text amounts token → last ≡ token
    → Mints live s amounts (codes "token " ++ token) (record s { last = Some last })
mints-made s None nonce amounts key token last is same made kept = cc
mints-made s (Some n) nonce amounts key token last is same made kept =
    let e : n ≡ nonce = cc in record { token = token; made = rw (e, ← same) made; text = refl; kept = rw kept refl }

-- the same guard and the same token are seen as the same
pub seen-both : {D : Type 0} (faults : D → ℕ) (old new : GuardView D) (last last' : Option (List ℕ)) → new ≡ old → last' ≡ last → guard_state faults new last' ≡ guard_state faults old last
seen-both {D} faults old new last last' same token = ap (λ (g : GuardView D). guard_state faults g last') same ∙ ap (λ t. guard_state faults old t) token

-- the orders of a dispense end in a refusal, which may be want of memory
pub ordered-or-part : (s bound next : GuardState) (token : Option (List ℕ)) (counts : CountsOf) (grant : Grant) (deny : Deny) → IsAllowed s token counts (Ok grant) bound → next.last ≡ bound.last
    → (◌≡◌ {A = Result Outcome Deny} (Err deny) (Err Memory) → StacksFirst grant.issue grant.counts.0 (guard_of bound) (guard_of next))
    → (◌≢◌ {A = Result Outcome Deny} (Err deny) (Err Memory) → StacksAll grant.issue grant.counts (guard_of bound) (Err deny) (guard_of next))
    → AllOrNothing (Dispenses s token counts) s next ⊎ IsPartDispensed s token counts next
ordered-or-part s bound next token counts grant deny allowed last part stacked = elim (denied-text deny) [
  | inl is ↦ inr (record { grant = grant; bound = bound; allowed = allowed; first = part (ap (λ d. Err d) is); last_is = last })
  | inr text ↦ inl (inr (
    text.0,
    inr (record {
      grant = grant;
      bound = bound;
      allowed = allowed;
      result = Err deny;
      stacked = stacked (λ e. told-some (Denied deny) text.0 text.1 (ap (λ d. Denied d) (err-same e)));
      last_is = last;
      told = text.1;
    }),
  ))
]
