-- What a call of the guard says of its answer is what a line that makes the call is answered.
use Rattle.std.proofs.Common.{◌≡◌, ◌≢◌, ◌≤◌, ◌+◌, ℕ, Bool, true, false, length, drop, List, [], ◌∷◌, ◌++◌, None, Some, Ok, Err, inl, inr, refl, sym, subst, ◌∙◌, ap, arith}
use Rattle.std.specs.Prelude.{IsErrAnd, codes, IsTrue, not, nat_lt, sum, if◌then◌else◌}
use Rattle.std.specs.Option.{option_map}
use Rattle.std.specs.declared.option.Option.{Option}
use Rattle.std.specs.declared.result.Result.{Result}
use Rattle.xfs_base.specs.Causes.{Rose}
use Rattle.xfs_base.specs.declared.counts.Counts.{Counts}
use Rattle.xfs_base.specs.declared.money.NoteKind.{NoteKind}
use Rattle.xfs_mix.specs.Asked.{count_fault, is_none, first_short}
use Rattle.xfs_mix.specs.declared.asked.CountFault.TheVariants.{Empty, TooMany, Short}
use Rattle.xfs_journal.specs.Journal.{next_issue, nonce_text}
use Rattle.xfs_journal.specs.declared.record.Rec.{Rec}
use Rattle.xfs_journal.specs.declared.record.Rec.TheVariants.{Issue, Clear}
use Rattle.xfs_disk.specs.declared.disk.Disk.{Ghosts}
use Rattle.xfs_guard.specs.Keeps.{Proceeds}
use Rattle.xfs_guard.specs.View.{View, GuardView}
use Rattle.xfs_guard.specs.Fits.{unfit}
use Rattle.xfs_guard.specs.Nonce.{live_nonce}
use Rattle.xfs_guard.specs.Refusals.{Answers}
use Rattle.xfs_guard.specs.Word.{issue_word}
use Rattle.xfs_guard.specs.declared.deny.Deny.{Deny}
use Rattle.xfs_guard.specs.declared.deny.Deny.TheVariants.{Disk, Memory}
use Rattle.xfs_guard.specs.declared.nonce.Nonce.{Nonce}
use Rattle.xfs_guard.proofs.LedgerLaws.{live-issued}
use Rattle.xfs_guard.specs.declared.fail.BootFault.{BootFault}
use Rattle.xfs_script.specs.Guard.{IsGuardLine}
use Rattle.xfs_script.specs.declared.guard_line.GuardLine.{GuardLine}
use Rattle.xfs_script.specs.declared.guard_line.GuardLine.TheVariants.{Restart}
use Rattle.xfs_lines.specs.Guard.Restarts.{RestartFails}
use Rattle.xfs_lines.specs.declared.commands.guard.player.NoAnswer.{NoAnswer}
use Rattle.xfs_lines.specs.Output.Refused.{refusal_text}
use Rattle.xfs_lines.specs.Guard.States.{GuardState, IsLater, guard_state, shut_at}
use Rattle.xfs_lines.specs.Guard.OneRecord.{WritesOne, WritesNone}
use Rattle.xfs_guard.specs.NextNonce.{next_record}
use Rattle.xfs_lines.specs.Guard.Verbs.{Issues, Clears}
use Rattle.xfs_dispenser.specs.declared.refusal.Refusal.{Refusal}
use Rattle.xfs_dispenser.specs.declared.refusal.Refusal.TheVariants.{Deny as Denied, Memory as Unremembered}
use Rattle.xfs_dispenser.proofs.CarryLaws.{IsDiskFault}
use Rattle.xfs_dispenser.proofs.DenyLaws.{is_disk}

-- a refusal with a text, which isn't the disk's, is the one that is due
pub due : (T : Type 0) (deny : Deny) (refusal : Option Deny) (line : List ℕ) → Answers {T = T} (Err deny) refusal → deny ≢ Disk → refusal_text (Denied deny) ≡ Some line → refusal ≡ Some deny
due T Disk refusal line answers other text = absurd (other refl)
due T Memory refusal line answers other text = cc
due T deny refusal line answers other text = answers

-- a refusal with a text isn't want of memory
pub told-some : (refusal : Refusal) (line : List ℕ) → refusal_text refusal ≡ Some line → refusal ≢ Denied Memory
told-some refusal line text is = (let e : None ≡ Some line = sym (ap refusal_text is) ∙ text in cc)

pub told-kept : (refusal : Refusal) (line : List ℕ) → refusal_text refusal ≡ Some line → refusal ≢ Unremembered
told-kept refusal line text is = (let e : None ≡ Some line = sym (ap refusal_text is) ∙ text in cc)

pub wrote-kept : (s next : GuardState) (refusal : Option Deny) (r : Rec) (kept : View) (text line : List ℕ)
    → refusal ≡ None → next.guard ≡ kept → s.disk_faults ≤ next.disk_faults → next.last ≡ s.last → line ≡ text → WritesOne s refusal r kept text line next
wrote-kept s next None r kept text line none is later last told = inr (record { text_is = told; becomes = record { guard_is = is; later = later; last_is = last } })
wrote-kept s next (Some deny) r kept text line none is later last told = cc

pub wrote-doubt : (s next : GuardState) (refusal : Option Deny) (r : Rec) (kept : View) (text line : List ℕ)
    → refusal ≡ None → next.guard ≡ shut_at r s.guard → s.disk_faults ≤ next.disk_faults → next.last ≡ s.last → Rose s.disk_faults next.disk_faults → refusal_text (Denied Disk) ≡ Some line
    → WritesOne s refusal r kept text line next
wrote-doubt s next None r kept text line none is later last rose told = inl (record { text = told; fails = record { becomes = record { guard_is = is; later = later; last_is = last }; cause = rose } })
wrote-doubt s next (Some deny) r kept text line none is later last rose told = cc

pub wrote-refused : (s next : GuardState) (refusal : Option Deny) (deny : Deny) (r : Rec) (kept : View) (text line : List ℕ)
    → refusal ≡ Some deny → next ≡ s → refusal_text (Denied deny) ≡ Some line → WritesOne s refusal r kept text line next
wrote-refused s next None deny r kept text line is same told = cc
wrote-refused s next (Some d) deny r kept text line is same told = let e : d ≡ deny = cc in record { text = rw e told; same = same }

pub none-refused : (s next : GuardState) (refusal : Option Deny) (deny : Deny) (text line : List ℕ)
    → refusal ≡ Some deny → next ≡ s → refusal_text (Denied deny) ≡ Some line → WritesNone s refusal text line next
none-refused s next None deny text line is same told = cc
none-refused s next (Some d) deny text line is same told = let e : d ≡ deny = cc in record { text = rw e told; same = same }

pub none-told : (s next : GuardState) (refusal : Option Deny) (text line : List ℕ) → refusal ≡ None → next ≡ s → line ≡ text → WritesNone s refusal text line next
none-told s next None text line none same told = (told, same)
none-told s next (Some d) text line none same told = cc

-- the same guard is seen as the same
pub seen-same : {D : Type 0} (faults : D → ℕ) (old new : GuardView D) (last : Option (List ℕ)) → new ≡ old → guard_state faults new last ≡ guard_state faults old last
seen-same faults old new last e = ap (λ g. guard_state faults g last) e

-- a call that writes a record is refused, or the disk failed
pub wrote-err : (T : Type 0) {D : Type 0} (faults : D → ℕ) (old new : GuardView D) (last : Option (List ℕ)) (refusal : Option Deny) (r : Rec) (kept : View) (text line : List ℕ) (deny : Deny)
    → Answers {T = T} (Err deny) refusal → (IsDiskFault T deny → new.state ≡ shut_at r old.state) → faults old.disk ≤ faults new.disk → (IsDiskFault T deny → Rose (faults old.disk) (faults new.disk))
    → (deny ≢ Disk → new ≡ old) → refusal_text (Denied deny) ≡ Some line
    → WritesOne (guard_state faults old last) refusal r kept text line (guard_state faults new last)
wrote-err T faults old new last refusal r kept text line deny answers disk later cause same told = elim (is_disk deny) [
  | inl is ↦ wrote-doubt (guard_state faults old last) (guard_state faults new last) refusal r kept text line (rw is at answers) (disk (ap (λ e. Err e) is)) later refl (cause (ap (λ e. Err e) is)) (rw is at told)
  | inr other ↦ wrote-refused (guard_state faults old last) (guard_state faults new last) refusal deny r kept text line (due T deny refusal line answers other told) (seen-same faults old new last (same other)) told
]

-- a guard that proceeded is seen later
pub later-seen : {D : Type 0} (g : Ghosts D) (old new : GuardView D) (last last' : Option (List ℕ)) → Proceeds g old new → IsLater (guard_state g.faults old last) (guard_state g.faults new last')
later-seen g old new last last' p = record { mech = p.mech_faults; disk = p.disk_faults }

pub later-same : (s : GuardState) → IsLater s s
later-same s = record { mech = omega arith; disk = omega arith }

-- the text of the nonce that lives after its record
issued-text : (J : List Rec) (number word : ℕ) (n : Nonce) → live_nonce (J ++ Issue number word ∷ []) ≡ Some n → n.text ≡ nonce_text number word
issued-text J number word n lives =
    let due = live-issued J number word (record { text = nonce_text number word; number = number }) refl refl in
    let both : Some n ≡ Some (record { text = nonce_text number word; number = number }) = sym lives ∙ due in
    some-text both
  where
    some-text : {x y : Nonce} → Some x ≡ Some y → x.text ≡ y.text
    some-text {x} {y} e = let same : x ≡ y = cc in ap (λ (n : Nonce). n.text) same

-- an issue
pub issue-done : {D : Type 0} (faults : D → ℕ) (old new : GuardView D) (last : Option (List ℕ)) (n : Nonce) (line : List ℕ)
    → unfit old.state ≡ None → n.number ≡ next_issue old.state.records → live_nonce new.state.records ≡ Some n
    → new.state ≡ record old.state { records = old.state.records ++ Issue n.number (issue_word old.state.seed n.number) ∷ []; bound = None }
    → faults old.disk ≤ faults new.disk → line ≡ codes "nonce " ++ n.text
    → Issues (guard_state faults old last) line (guard_state faults new last)
issue-done faults old new last n line fit number lives is later told =
    let grown : new.state.records ≡ old.state.records ++ Issue n.number (issue_word old.state.seed n.number) ∷ [] = ap (λ (v : View). v.records) is in
    let text = issued-text old.state.records n.number (issue_word old.state.seed n.number) n (rw grown at lives) in
    wrote-kept (guard_state faults old last) (guard_state faults new last) (unfit old.state) (next_record old.state)
    (record old.state { records = old.state.records ++ next_record old.state ∷ []; bound = None }) _ line fit (rw number at is) later refl (told ∙ ap (λ t. codes "nonce " ++ t) (rw number at text))

-- a clear that is refused, or at which the disk failed
pub clear-err : {D : Type 0} (faults : D → ℕ) (old new : GuardView D) (last : Option (List ℕ)) (live : Option Nonce) (line : List ℕ) (deny : Deny)
    → Answers {T = Bool} (Err deny) (unfit old.state) → (IsDiskFault Bool deny → live ≢ None) → (IsDiskFault Bool deny → new.state ≡ shut_at Clear old.state)
    → faults old.disk ≤ faults new.disk → (IsDiskFault Bool deny → Rose (faults old.disk) (faults new.disk))
    → (deny ≢ Disk → new ≡ old) → refusal_text (Denied deny) ≡ Some line
    → Clears live (guard_state faults old last) line (guard_state faults new last)
clear-err faults old new last (Some n) line deny answers lives disk later cause same told =
    wrote-err Bool faults old new last _ _ _ _ line deny answers disk later cause same told
clear-err faults old new last None line deny answers lives disk later cause same told =
    let other : deny ≢ Disk = λ is. lives (ap (λ e. Err e) is) refl in
    none-refused (guard_state faults old last) (guard_state faults new last) (unfit old.state) deny _ line (due Bool deny (unfit old.state) line answers other told)
    (seen-same faults old new last (same other)) told

-- counts that are no fault have none past the table
pub none-past : (units : List NoteKind) (have counts : Counts) → count_fault units have counts ≡ None → IsTrue (is_none (drop (length units) counts.0))
none-past units have counts fine = go (is_none counts.0) (is_none (drop (length units) counts.0)) fine
  where
    go : (a b : Bool) → (if a then Some Empty else if not b then Some Empty else if nat_lt 60 (sum counts.0) then Some TooMany else option_map (λ at. Short (at + 1)) (first_short have counts)) ≡ None → IsTrue b
    go true b e = cc
    go false true e = refl
    go false false e = cc

pub err-fault : {T : Type 0} {a b : NoAnswer} → ◌≡◌ {A = Result T NoAnswer} (Err a) (Err b) → a ≡ b
err-fault e = cc

-- a fault is handed on
pub fault-through : {T U : Type 0} (result : Result T NoAnswer) (given fault : NoAnswer) → IsErrAnd result (λ e. e ≡ given) → result ≡ Err fault → ◌≡◌ {A = Result U NoAnswer} (Err given) (Err fault)
fault-through (Ok x) given fault err is = absurd err
fault-through (Err e) given fault err is = ap (λ d. Err d) (sym err ∙ err-fault is)

-- the line of a restart, with the fault that is told
pub restart-line : {D : Type 0} (faults : D → ℕ) (old new : GuardView D) (last last' : Option (List ℕ)) (verb : GuardLine) (text : List ℕ) (why fault : BootFault) → verb ≡ Restart → IsGuardLine text verb
    → RestartFails (guard_state faults old last) why (guard_state faults new last') → why ≡ fault → (text ≡ codes "restart") × RestartFails (guard_state faults old last) fault (guard_state faults new last')
restart-line faults old new last last' verb text why fault is reads fails same =
    (subst (λ v. IsGuardLine text v) is reads, subst (λ f. RestartFails (guard_state faults old last) f (guard_state faults new last')) same fails)
