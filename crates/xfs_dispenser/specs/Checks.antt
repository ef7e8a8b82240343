-- The checks of a dispense in their order, and the grant to stack its notes.
use Rattle.std.specs.Prelude.{◌≡◌, ◌≤◌, ◌⊎◌, ℕ, Bool, List, Some, None, Ok, Err, if◌then◌else◌}
use Rattle.std.specs.Option.{option_map}
use Rattle.std.specs.Borrow.{Bor}
use Rattle.std.specs.declared.option.Option.{Option}
use Rattle.std.specs.declared.result.Result.{Result}
use Rattle.xfs_base.specs.declared.counts.Counts.{Counts}
use Rattle.xfs_common.specs.declared.error.ErrorCode.TheVariants.{ExchangeActive, NoExchangeActive}
use Rattle.xfs_journal.specs.declared.record.Rec.TheVariants.{Bind}
use Rattle.xfs_guard.specs.View.{View, shut_at}
use Rattle.xfs_guard.specs.Fits.{unfit}
use Rattle.xfs_guard.specs.Nonce.{live_nonce}
use Rattle.xfs_guard.specs.Refusals.{Passes, TokenRefused, Binds, bound_token, over_budget}
use Rattle.xfs_guard.specs.declared.deny.Deny.{Deny as Denial}
use Rattle.xfs_guard.specs.declared.deny.Deny.TheVariants.{Disk, Memory as NoMemory}
use Rattle.xfs_guard.specs.declared.nonce.Nonce.{Nonce}
use Rattle.xfs_dispenser.specs.Denominations.{FirstOf, NotesGiven, members_refusal}
use Rattle.xfs_dispenser.specs.Seen.{Seen, Fails}
use Rattle.xfs_dispenser.specs.declared.grant.Grant.{Grant}
use Rattle.xfs_dispenser.specs.declared.notes.Notes.{Notes}
use Rattle.xfs_dispenser.specs.declared.refusal.Refusal.{Refusal}
use Rattle.xfs_dispenser.specs.declared.refusal.Refusal.TheVariants.{NoToken, Error, Deny, Memory}

-- how the guard's refusal is handed on
abbrev pub denied : Denial → Refusal
denied NoMemory = Memory
denied deny = Deny deny

-- the text of a token that was handed in
abbrev pub token_text : Option (Bor (List ℕ)) → Option (List ℕ)
token_text token = option_map (λ (t : Bor (List ℕ)). t.now) token

-- the refusal while an exchange is active
abbrev pub active_refusal : Bool → Option Refusal
active_refusal exchange = if exchange then Some (Error ExchangeActive) else None

-- the refusal while no exchange is active
abbrev pub inactive_refusal : Bool → Option Refusal
inactive_refusal exchange = if exchange then None else Some (Error NoExchangeActive)

-- the refusal while the journal takes no more records
abbrev pub unfit_refusal : View → Option Refusal
unfit_refusal v = option_map (λ deny. Deny deny) (unfit v)

-- what passed every check: the token's bytes, its amounts, and the notes that it covers
pub record Passed : Type 0 where
  pub token : List ℕ
  pub amounts : List (List ℕ × ℕ)
  pub counts : Counts

abbrev pub passed_unless : Passed → Option Denial → Result Passed Refusal
passed_unless passed None = Ok passed
passed_unless passed (Some deny) = Err (Deny deny)

-- the notes that are given, unless they pass the token's amounts
abbrev pub within_budget : View → List ℕ → List (List ℕ × ℕ) → Result Counts Refusal → Result Passed Refusal
within_budget v token amounts (Err refusal) = Err refusal
within_budget v token amounts (Ok counts) = passed_unless (record { token = token; amounts = amounts; counts = counts }) (over_budget v amounts counts)

-- the guard refuses the token
pub record IsTokenRefused (v : View) (token : List ℕ) (result : Result Passed Refusal) : Type 0 where
  pub deny : Denial
  pub refused : TokenRefused v token deny
  pub is : result ≡ Err (Deny deny)

-- the token passes; then the notes are looked at, and then the budget
pub record IsTokenPassed (v : View) (notes : Notes) (token : List ℕ) (result : Result Passed Refusal) : Type 0 where
  pub amounts : List (List ℕ × ℕ)
  pub passes : Passes v token amounts
  pub given : Result Counts Refusal
  pub gives : NotesGiven v.units v.places.units notes given
  pub is : result ≡ within_budget v token amounts given

abbrev pub TokenChecks : View → Notes → Option (List ℕ) → Result Passed Refusal → Type 0
TokenChecks v notes None result = result ≡ Err NoToken
TokenChecks v notes (Some token) result = IsTokenRefused v token result ⊎ IsTokenPassed v notes token result

-- the checks that the grant to stack takes
abbrev pub GrantChecks : View → Notes → Option (List ℕ) → Result Passed Refusal → Type 0
GrantChecks v notes token = FirstOf (unfit_refusal v) (TokenChecks v notes token)

-- all checks of a dispense
abbrev pub DispenseChecks : View → Bool → Notes → Option (List ℕ) → Result Passed Refusal → Type 0
DispenseChecks v exchange notes token = FirstOf (members_refusal notes) (FirstOf (active_refusal exchange) (GrantChecks v notes token))

-- the passed token is bound to the live nonce, if it wasn't yet, and the grant is for that nonce's issue
pub record IsPermitted (s : Seen) (passed : Passed) (result : Result Grant Refusal) (next : Seen) : Type 0 where
  pub issue : ℕ
  pub lives : option_map (λ (n : Nonce). n.number) (live_nonce s.guard.records) ≡ Some issue
  pub binds : Binds s.guard next.guard passed.token passed.amounts
  pub later : s.disk_faults ≤ next.disk_faults
  pub is : result ≡ Ok (record { issue = issue; counts = passed.counts })

-- the disk fails at the Bind of the passed token, which is the first of its issue
pub record IsUnbound (s : Seen) (passed : Passed) (result : Result Grant Refusal) (next : Seen) : Type 0 where
  pub first : bound_token s.guard.records ≡ None
  pub fails : Fails s (shut_at (Bind passed.token) s.guard) next
  pub is : result ≡ Err (Deny Disk)

-- what the checks lead to: a refusal changes nothing
abbrev pub Permits : Seen → Result Passed Refusal → Result Grant Refusal → Seen → Type 0
Permits s (Err refusal) result next = (result ≡ Err refusal) × (next ≡ s)
Permits s (Ok passed) result next = IsPermitted s passed result next ⊎ IsUnbound s passed result next

-- the grant to stack notes on a token, or why there is none
pub record IsGrant (s : Seen) (notes : Notes) (token : Option (List ℕ)) (result : Result Grant Refusal) (next : Seen) : Type 0 where
  pub checked : Result Passed Refusal
  pub checks : GrantChecks s.guard notes token checked
  pub permits : Permits s checked result next
