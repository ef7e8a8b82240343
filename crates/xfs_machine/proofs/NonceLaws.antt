-- The commands of the nonce line, and the end of a life, by what the guard's calls answer.
use Rattle.std.proofs.Common.{◌≡◌, ◌≢◌, ◌≤◌, ℕ, Bool, true, false, List, [], ◌∷◌, Option, None, Some, Err, refl, sym, subst, ◌∙◌, ap}
use Rattle.std.specs.Prelude.{◌||◌, ◌&&◌, if◌then◌else◌, is_none, is_some, map}
use Rattle.std.proofs.lemmas.Bool.{false≢true}
use Rattle.std.proofs.lemmas.Option.{none-some}
use Rattle.serde_json.specs.Data.{Data}
use Rattle.xfs_base.specs.Causes.{Rose}
use Rattle.xfs_common.specs.Payloads.{nonce_payload, nothing}
use Rattle.xfs_dispenser.specs.Seen.{Seen}
use Rattle.xfs_envelope.specs.declared.code.Code.TheVariants.{DeviceNotReady}
use Rattle.xfs_guard.specs.Fits.{is_short, unfit}
use Rattle.xfs_guard.specs.Nonce.{live_in, live_nonce}
use Rattle.xfs_guard.specs.Refusals.{Answers}
use Rattle.xfs_guard.specs.View.{View, shut_at}
use Rattle.xfs_guard.specs.declared.deny.Deny.{Deny}
use Rattle.xfs_guard.specs.declared.deny.Deny.TheVariants.{Shut, Full, TooLong, KeyNoValue, Format, NoNonce, WrongNonce, WrongMac, NoAmounts, OtherBound, NotEmpty, OverBudget, Unbound, Nothing, OutletFull, Short, Disk, Memory}
use Rattle.xfs_journal.specs.Journal.{nonce_text}
use Rattle.xfs_journal.specs.declared.record.Rec.TheVariants.{Issue, Clear, Expire}
use Rattle.xfs_base.specs.declared.moment.Service.TheVariants.{Cash}
use Rattle.xfs_model.specs.Cases.{EndsLife}
use Rattle.xfs_model.specs.Connections.{is_service, with_mail}
use Rattle.xfs_model.specs.Frames.{Announces}
use Rattle.xfs_model.specs.Guards.{NonceCommand, cleared_, ended, unended, is_live, issued, number_to_issue, word_to_issue, none_to_clear, refused, uncleared, unissued, with_mark}
use Rattle.xfs_model.specs.Results.{plain, success}
use Rattle.xfs_model.specs.State.{Ask, Connection, State, clear, cleared, expired, issue}

-- a call that nothing refuses is refused by the disk alone, or wants memory
pub write_fault : (T : Type 0) (e : Deny) (first : Option Deny) → first ≡ None → Answers {T = T} (Err e) first → e ≢ Memory → e ≡ Disk
write_fault T Disk first none is other = refl
write_fault T Memory first none is other = absurd (other refl)
write_fault T Shut first none is other = absurd (none-some Shut (sym none ∙ is))
write_fault T Full first none is other = absurd (none-some Full (sym none ∙ is))
write_fault T TooLong first none is other = absurd (none-some TooLong (sym none ∙ is))
write_fault T (KeyNoValue at) first none is other = absurd (none-some (KeyNoValue at) (sym none ∙ is))
write_fault T (Format at) first none is other = absurd (none-some (Format at) (sym none ∙ is))
write_fault T (NoNonce since) first none is other = absurd (none-some (NoNonce since) (sym none ∙ is))
write_fault T (WrongNonce since) first none is other = absurd (none-some (WrongNonce since) (sym none ∙ is))
write_fault T (WrongMac due) first none is other = absurd (none-some (WrongMac due) (sym none ∙ is))
write_fault T NoAmounts first none is other = absurd (none-some NoAmounts (sym none ∙ is))
write_fault T (OtherBound since) first none is other = absurd (none-some (OtherBound since) (sym none ∙ is))
write_fault T (NotEmpty notes) first none is other = absurd (none-some (NotEmpty notes) (sym none ∙ is))
write_fault T (OverBudget currency left) first none is other = absurd (none-some (OverBudget currency left) (sym none ∙ is))
write_fault T (Unbound since) first none is other = absurd (none-some (Unbound since) (sym none ∙ is))
write_fault T Nothing first none is other = absurd (none-some Nothing (sym none ∙ is))
write_fault T (OutletFull notes) first none is other = absurd (none-some (OutletFull notes) (sym none ∙ is))
write_fault T (Short unit) first none is other = absurd (none-some (Short unit) (sym none ∙ is))

-- the journal takes no more records
pub unfit_refused : (s : State) (ask : Ask) (d : Deny) → unfit s.seen.guard ≡ Some d → NonceCommand s ask (plain DeviceNotReady) s.seen s.issued
unfit_refused s ask d is = refused ask (ap is_none is)

fit_is : (v : View) → unfit v ≡ None → is_none (unfit v) ≡ true
fit_is v e = ap is_none e

pub issue_done : (s : State) (next : Seen) (payload : Data) (text : List ℕ) → unfit s.seen.guard ≡ None → payload ≡ nonce_payload text → text ≡ nonce_text (number_to_issue s.seen) (word_to_issue s.seen)
    → next.guard ≡ with_mark (Issue (number_to_issue s.seen) (word_to_issue s.seen)) s.seen.guard → s.seen.disk_faults ≤ next.disk_faults → NonceCommand s issue (success payload) next s.now
issue_done s next payload text fit is spelled marked later =
    rw (is, spelled) (issued next (fit_is s.seen.guard fit) (record { guard_is = marked; later = later }))

pub issue_failed : (s : State) (next : Seen) → unfit s.seen.guard ≡ None → next.guard ≡ shut_at (Issue (number_to_issue s.seen) (word_to_issue s.seen)) s.seen.guard → s.seen.disk_faults ≤ next.disk_faults → Rose s.seen.disk_faults next.disk_faults
    → NonceCommand s issue (plain DeviceNotReady) next s.issued
issue_failed s next fit shut later cause = unissued next (fit_is s.seen.guard fit) (record { becomes = record { guard_is = shut; later = later }; cause = cause })

boot_there : (shut missing short : Bool) → (if shut then Some Shut else if (missing || short) then Some Full else None) ≡ None → missing ≡ false
boot_there true missing short e = absurd (none-some Shut (sym e))
boot_there false true short e = absurd (none-some Full (sym e))
boot_there false false short e = refl

live_there : (v : View) → unfit v ≡ None → live_in v.boot_missing v.records ≡ live_nonce v.records
live_there v fit = rw (boot_there v.shut v.boot_missing (is_short v) fit) refl

some_there : {X : Type 0} (o : Option X) → o ≢ None → is_some o ≡ true
some_there None h = absurd (h refl)
some_there (Some x) h = refl

none_there : {X : Type 0} (o : Option X) → ((o ≢ None) → ⊥) → is_some o ≡ false
none_there None h = refl
none_there (Some x) h = absurd (h (λ e. none-some x (sym e)))

lives : (s : State) → unfit s.seen.guard ≡ None → live_nonce s.seen.guard.records ≢ None → is_live s.seen ≡ true
lives s fit h = ap is_some (live_there s.seen.guard fit) ∙ some_there (live_nonce s.seen.guard.records) h

pub clear_done : (s : State) (next : Seen) → unfit s.seen.guard ≡ None → live_nonce s.seen.guard.records ≢ None → next.guard ≡ with_mark Clear s.seen.guard → s.seen.disk_faults ≤ next.disk_faults
    → NonceCommand s clear (record (success nothing) { ending = Some cleared }) next s.issued
clear_done s next fit live marked later = cleared_ next (fit_is s.seen.guard fit) (lives s fit live) (record { guard_is = marked; later = later })

pub clear_none : (s : State) → unfit s.seen.guard ≡ None → ((live_nonce s.seen.guard.records ≢ None) → ⊥) → NonceCommand s clear (success nothing) s.seen s.issued
clear_none s fit dead = none_to_clear (fit_is s.seen.guard fit) (ap is_some (live_there s.seen.guard fit) ∙ none_there (live_nonce s.seen.guard.records) dead)

pub clear_failed : (s : State) (next : Seen) → unfit s.seen.guard ≡ None → live_nonce s.seen.guard.records ≢ None → next.guard ≡ shut_at Clear s.seen.guard → s.seen.disk_faults ≤ next.disk_faults → Rose s.seen.disk_faults next.disk_faults
    → NonceCommand s clear (plain DeviceNotReady) next s.issued
clear_failed s next fit live shut later cause = uncleared next (fit_is s.seen.guard fit) (lives s fit live) (record { becomes = record { guard_is = shut; later = later }; cause = cause })

pub long_and : (a b c d : Bool) → ((a && (b && c)) && d) ≡ (a && b && c && d)
long_and true true true d = refl
long_and true true false d = refl
long_and true false c d = refl
long_and false b c d = refl

-- the life of the live nonce ended, or the disk failed at it
pub life_ended : (s : State) (next : Seen) (frame : List ℕ) (connections : List Connection) → Announces (Some expired) (Some frame) → next.guard ≡ with_mark Expire s.seen.guard → s.seen.disk_faults ≤ next.disk_faults
    → connections ≡ map (λ k. with_mail (is_service Cash k.service) (frame ∷ []) k) s.connections → EndsLife s (record s { seen = next; connections = connections })
life_ended s next frame connections told_ marked later mail = record {
  ending = Some expired;
  next = next;
  frame = Some frame;
  expires = ended next (record { guard_is = marked; later = later });
  announces = told_;
  is = rw mail refl;
}

pub life_unended : (s : State) (next : Seen) → next.guard ≡ shut_at Expire s.seen.guard → s.seen.disk_faults ≤ next.disk_faults → Rose s.seen.disk_faults next.disk_faults → EndsLife s (record s { seen = next; connections = s.connections })
life_unended s next shut later cause = record {
  ending = None;
  next = next;
  frame = None;
  expires = unended next (record { becomes = record { guard_is = shut; later = later }; cause = cause });
  announces = tt;
  is = refl;
}

-- what a clear answers, by whether a nonce lived
pub clear_answer : (s : State) (next : Seen) (lived : Bool) → unfit s.seen.guard ≡ None → (lived ≡ true → live_nonce s.seen.guard.records ≢ None) → ((live_nonce s.seen.guard.records ≢ None) → lived ≡ true)
    → (lived ≡ true → next.guard ≡ with_mark Clear s.seen.guard) → (lived ≡ false → next ≡ s.seen) → s.seen.disk_faults ≤ next.disk_faults
    → NonceCommand s clear (record (success nothing) { ending = if lived then Some cleared else None }) next s.issued
clear_answer s next true fit live dead marked same later = clear_done s next fit (live refl) (marked refl) later
clear_answer s next false fit live dead marked same later =
    subst (λ n. NonceCommand s clear (success nothing) n s.issued) (sym (same refl)) (clear_none s fit (λ there. let f : false ≡ true = dead there in absurd (false≢true f)))
