-- What the guard says of a token and of its budget is what the grant to stack is refused for.
use Rattle.std.proofs.Common.{◌≡◌, ◌≢◌, ◌≤◌, ℕ, List, Some, None, Ok, Err, inl, inr, refl, sym, subst, ◌∙◌, ap}
use Rattle.std.proofs.Common.{Bor}
use Rattle.std.specs.Prelude.{IsErrAnd}
use Rattle.std.specs.Option.{option_map}
use Rattle.std.specs.declared.option.Option.{Option}
use Rattle.std.specs.declared.result.Result.{Result}
use Rattle.xfs_base.specs.Causes.{Rose}
use Rattle.xfs_base.specs.declared.counts.Counts.{Counts}
use Rattle.xfs_base.specs.declared.counts.Places.{Places}
use Rattle.xfs_base.specs.declared.money.NoteKind.{NoteKind}
use Rattle.xfs_disk.specs.declared.disk.Disk.{Ghosts}
use Rattle.xfs_journal.specs.declared.record.Rec.TheVariants.{Bind}
use Rattle.xfs_guard.specs.Fits.{unfit}
use Rattle.xfs_guard.specs.Nonce.{live_nonce}
use Rattle.xfs_guard.specs.Refusals.{Answers, Binds, Passes, TokenRefused, bound_token, over_budget}
use Rattle.xfs_guard.specs.LedgerView.{IsWriteFault}
use Rattle.xfs_guard.specs.View.{GuardView, View, shut_at}
use Rattle.xfs_guard.specs.declared.deny.Deny.{Deny as Denial}
use Rattle.xfs_guard.specs.declared.deny.Deny.TheVariants.{Disk, Memory as NoMemory}
use Rattle.xfs_guard.specs.declared.nonce.Nonce.{Nonce}
use Rattle.xfs_dispenser.specs.Checks.{Passed, IsGrant, GrantChecks, TokenChecks, denied, passed_unless}
use Rattle.xfs_dispenser.specs.Denominations.{FirstOf, NotesGiven}
use Rattle.xfs_dispenser.specs.Seen.{Seen, seen}
use Rattle.xfs_dispenser.specs.declared.grant.Grant.{Grant}
use Rattle.xfs_dispenser.specs.declared.notes.Notes.{Notes}
use Rattle.xfs_dispenser.specs.declared.refusal.Refusal.{Refusal}
use Rattle.xfs_dispenser.specs.declared.refusal.Refusal.TheVariants.{Deny, Memory, NoToken}
use Rattle.xfs_dispenser.proofs.DenyLaws.{due-disk, due-some, is_disk}

denied-is : (d : Denial) → denied d ≢ Memory → denied d ≡ Deny d
denied-is NoMemory some = absurd (some refl)
denied-is d some = refl

handed-on : (d : Denial) (r : Refusal) → r ≡ denied d → r ≢ Memory → r ≡ Deny d
handed-on d r is some = is ∙ denied-is d (λ m. some (is ∙ m))

not-memory : (d : Denial) (r : Refusal) → r ≡ denied d → r ≢ Memory → d ≢ NoMemory
not-memory d r is some m = some (is ∙ ap denied m)

fit-checks : (v : View) (notes : Notes) (token : Option (List ℕ)) (result : Result Passed Refusal) → unfit v ≡ None → TokenChecks v notes token result → GrantChecks v notes token result
fit-checks v notes token result fit checks = subst (λ o. FirstOf (option_map (λ d. Deny d) o) (TokenChecks v notes token) result) (sym fit) checks

-- a refusal before anything is done
refused : (s : Seen) (notes : Notes) (token : Option (List ℕ)) (r : Refusal) → GrantChecks s.guard notes token (Err r) → IsGrant s notes token (Err r) s
refused s notes token r checks = record { checked = Err r; checks = checks; permits = (refl, refl) }

pub grant-unfit : (s : Seen) (notes : Notes) (token : Option (List ℕ)) (d : Denial) (r : Refusal) → unfit s.guard ≡ Some d → r ≡ denied d → r ≢ Memory → IsGrant s notes token (Err r) s
grant-unfit s notes token d r unfit is some =
    refused s notes token r (subst (λ o. FirstOf (option_map (λ d. Deny d) o) (TokenChecks s.guard notes token) (Err r)) (sym unfit) (ap (λ x. Err x) (handed-on d r is some)))

pub grant-none : (s : Seen) (notes : Notes) (token : Option (List ℕ)) → unfit s.guard ≡ None → token ≡ None → IsGrant s notes token (Err NoToken) s
grant-none s notes token fit none = refused s notes token NoToken (fit-checks s.guard notes token (Err NoToken) fit (subst (λ t. TokenChecks s.guard notes t (Err NoToken)) (sym none) refl))

pub grant-token : (s : Seen) (notes : Notes) (token : Option (List ℕ)) (bytes : List ℕ) (d : Denial) (r : Refusal) → unfit s.guard ≡ None → token ≡ Some bytes → TokenRefused s.guard bytes d → r ≡ denied d → r ≢ Memory
    → IsGrant s notes token (Err r) s
grant-token s notes token bytes d r fit named no_token is some =
    refused s notes token r (fit-checks s.guard notes token (Err r) fit (subst (λ t. TokenChecks s.guard notes t (Err r)) (sym named) (inl (record { deny = d; refused = no_token; is = ap (λ x. Err x) (handed-on d r is some) }))))

pub grant-notes : (s : Seen) (notes : Notes) (token : Option (List ℕ)) (bytes : List ℕ) (amounts : List (List ℕ × ℕ)) (r : Refusal) → unfit s.guard ≡ None → token ≡ Some bytes → Passes s.guard bytes amounts
    → NotesGiven s.guard.units s.guard.places.units notes (Err r) → IsGrant s notes token (Err r) s
grant-notes s notes token bytes amounts r fit named passes gives =
    refused s notes token r (fit-checks s.guard notes token (Err r) fit (subst (λ t. TokenChecks s.guard notes t (Err r)) (sym named) (inr (record { amounts = amounts; passes = passes; given = Err r; gives = gives; is = refl }))))

-- the checks of a token and its notes, but for the budget
budget-checks : (v : View) (notes : Notes) (token : Option (List ℕ)) (bytes : List ℕ) (amounts : List (List ℕ × ℕ)) (counts : Counts) (o : Option Denial) → unfit v ≡ None → token ≡ Some bytes → Passes v bytes amounts
    → NotesGiven v.units v.places.units notes (Ok counts) → over_budget v amounts counts ≡ o → GrantChecks v notes token (passed_unless (record { token = bytes; amounts = amounts; counts = counts }) o)
budget-checks v notes token bytes amounts counts o fit named passes gives over =
    let passed : Passed = record { token = bytes; amounts = amounts; counts = counts } in
    fit-checks v notes token (passed_unless passed o) fit (subst (λ t. TokenChecks v notes t (passed_unless passed o)) (sym named)
    (inr (record { amounts = amounts; passes = passes; given = Ok counts; gives = gives; is = ap (passed_unless passed) (sym over) })))

pub grant-budget : (T : Type 0) {D : Type 0} (g : Ghosts D) (old new : GuardView D) (notes : Notes) (token : Option (List ℕ)) (bytes : List ℕ) (amounts : List (List ℕ × ℕ)) (counts : Counts) (d : Denial) (r : Refusal)
    → unfit old.state ≡ None → token ≡ Some bytes → Passes old.state bytes amounts → NotesGiven old.state.units old.state.places.units notes (Ok counts)
    → Answers {T = T} (Err d) (over_budget old.state amounts counts) → (IsWriteFault d → bound_token old.state.records ≡ None) → (d ≡ Disk → new.state ≡ shut_at (Bind bytes) old.state)
    → g.faults old.disk ≤ g.faults new.disk → (d ≡ Disk → Rose (g.faults old.disk) (g.faults new.disk)) → (d ≢ Disk → new ≡ old) → r ≡ denied d → r ≢ Memory
    → IsGrant (seen g old) notes token (Err r) (seen g new)
grant-budget T g old new notes token bytes amounts counts d r fit named passes gives answers first disk later cause same is some = elim (is_disk d) [
  | inl e ↦ record {
    checked = Ok (record { token = bytes; amounts = amounts; counts = counts });
    checks = budget-checks old.state notes token bytes amounts counts None fit named passes gives (due-disk T d (over_budget old.state amounts counts) answers e);
    permits = inr (record {
      first = first (rw e (inr refl));
      fails = record { becomes = record { guard_is = disk e; later = later }; cause = cause e };
      is = ap (λ x. Err x) (handed-on d r is some ∙ ap (λ x. Deny x) e);
    });
  }
  | inr other ↦ (
      let due = due-some T d (over_budget old.state amounts counts) answers other (not-memory d r is some) in
      let checks = budget-checks old.state notes token bytes amounts counts (Some d) fit named passes gives due in
      record { checked = Err (Deny d); checks = checks; permits = (ap (λ x. Err x) (handed-on d r is some), ap (seen g) (same other)) }
      )
]

pub grant-given : {D : Type 0} (g : Ghosts D) (old new : GuardView D) (notes : Notes) (token : Option (List ℕ)) (bytes : List ℕ) (amounts : List (List ℕ × ℕ)) (grant : Grant)
    → unfit old.state ≡ None → token ≡ Some bytes → Passes old.state bytes amounts → NotesGiven old.state.units old.state.places.units notes (Ok grant.counts)
    → over_budget old.state amounts grant.counts ≡ None → option_map (λ (n : Nonce). n.number) (live_nonce old.state.records) ≡ Some grant.issue → Binds old.state new.state bytes amounts → g.faults old.disk ≤ g.faults new.disk
    → IsGrant (seen g old) notes token (Ok grant) (seen g new)
grant-given g old new notes token bytes amounts grant fit named passes gives over lives binds later = record {
  checked = Ok (record { token = bytes; amounts = amounts; counts = grant.counts });
  checks = budget-checks old.state notes token bytes amounts grant.counts None fit named passes gives over;
  permits = inl (record { issue = grant.issue; lives = lives; binds = binds; later = later; is = refl });
}

-- the text of a token, where there is one
pub text-none : (token : Option (Bor (List ℕ))) → token ≡ None → option_map (λ (t : Bor (List ℕ)). t.now) token ≡ None
text-none token e = ap (option_map (λ (t : Bor (List ℕ)). t.now)) e

pub text-some : (token : Option (Bor (List ℕ))) (t : Bor (List ℕ)) → token ≡ Some t → option_map (λ (t : Bor (List ℕ)). t.now) token ≡ Some t.now
text-some token t e = ap (option_map (λ (t : Bor (List ℕ)). t.now)) e

-- an error that is handed on, unless it is want of memory
pub given-by : (s : Seen) (notes : Notes) (token : Option (List ℕ)) (next : Seen) (P : Refusal → Type 0) (result : Result Grant Refusal) → IsErrAnd result P
    → ((r : Refusal) → P r → r ≢ Memory → IsGrant s notes token (Err r) next) → result ≢ Err Memory → IsGrant s notes token result next
given-by s notes token next P (Ok x) err f some = absurd err
given-by s notes token next P (Err r) err f some = f r err (λ e. some (ap (λ x. Err x) e))

-- the notes of the units of a guard
pub notes-refused : (v : View) (notes : Notes) (units : List NoteKind) (places : Places) (e r : Refusal) → r ≡ e → units ≡ v.units → places ≡ v.places
    → (◌≢◌ {A = Result Counts Refusal} (Err e) (Err Memory) → NotesGiven units places.units notes (Err e)) → r ≢ Memory → NotesGiven v.units v.places.units notes (Err r)
notes-refused v notes units places e r is u p gives some = rw (is, ← u, ← p) (gives (λ f. some (is ∙ same f)))
  where
    same : ◌≡◌ {A = Result Counts Refusal} (Err e) (Err Memory) → e ≡ Memory
    same f = cc

pub notes-allowed : (v : View) (notes : Notes) (units : List NoteKind) (places : Places) (counts : Counts) → units ≡ v.units → places ≡ v.places
    → (◌≢◌ {A = Result Counts Refusal} (Ok counts) (Err Memory) → NotesGiven units places.units notes (Ok counts)) → NotesGiven v.units v.places.units notes (Ok counts)
notes-allowed v notes units places counts u p gives = rw (← u, ← p) (gives (λ f. cc))
