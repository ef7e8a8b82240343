-- What the guard refuses: the first refusal that applies, in the stated order.
use Rattle.std.specs.Prelude.{◌≡◌, ◌≢◌, ◌⊎◌, ◌++◌, ℕ, ◌-◌, ◌==◌, ◌<◌, ◌≤◌, nat_lt, List, [], ◌∷◌, length, take, sum, slice_set, not, is_none, Some, None, Ok, Err, if◌then◌else◌, ⊤}
use Rattle.std.specs.declared.option.Option.{Option}
use Rattle.std.specs.declared.result.Result.{Result}
use Rattle.std.specs.Option.{option_and_then, option_or, unwrap_or}
use Rattle.std.specs.Str.{bytes_eq}
use Rattle.xfs_base.specs.Counts.{at}
use Rattle.xfs_base.specs.declared.counts.Counts.{Counts}
use Rattle.xfs_base.specs.declared.counts.Kind.{Kind}
use Rattle.xfs_base.specs.declared.counts.Kind.TheVariants.{Stack, Present, Reject, Retract}
use Rattle.xfs_hmac.specs.Hmac.{hmac}
use Rattle.xfs_token.specs.Token.{Parts, Spells}
use Rattle.xfs_token.specs.Amounts.{amounts_of}
use Rattle.xfs_token.specs.Fault.{IsFault}
use Rattle.xfs_token.specs.declared.text.TheConstants.{MAC_FIELD}
use Rattle.xfs_token.specs.declared.faults.TokenFault.{TokenFault}
use Rattle.xfs_journal.specs.declared.record.Rec.TheVariants.{Bind}
use Rattle.xfs_guard.specs.TokenDeny.{deny_of}
use Rattle.xfs_journal.specs.declared.record.Rec.{Rec}
use Rattle.xfs_journal.specs.Journal.{live_of, token_of, bind_of, last_mark}
use Rattle.xfs_guard.specs.declared.nonce.Nonce.{Nonce}
use Rattle.xfs_guard.specs.declared.deny.Deny.{Deny}
use Rattle.xfs_guard.specs.declared.deny.Deny.TheVariants.{NoNonce, WrongNonce, WrongMac, NoAmounts, OtherBound, NotEmpty, Unbound, Nothing, OutletFull, Short, Disk, Memory}
use Rattle.xfs_guard.specs.declared.ask.Ask.{Ask}
use Rattle.xfs_guard.specs.declared.ask.Ask.TheVariants.{Stack as AskStack, Present as AskPresent, Reject as AskReject, Retract as AskRetract}
use Rattle.xfs_guard.specs.Balance.{no_notes}
use Rattle.xfs_guard.specs.View.{View}
use Rattle.xfs_guard.specs.Nonce.{live_nonce}
use Rattle.xfs_guard.specs.OverBudget.{over_budget_in}
use Rattle.xfs_guard.specs.Fits.{unfit}

-- OverBudget, for the first currency in which the counts exceed the amounts, with what is left before them
abbrev pub over_budget : View → List (List ℕ × ℕ) → Counts → Option Deny
over_budget v amounts counts = over_budget_in v.units v.records v.places.transport amounts counts

-- the token that is bound to the live nonce, and the number of its Bind
abbrev pub bound_token : List Rec → Option (List ℕ)
bound_token records = option_and_then (token_of records) (live_of records)

abbrev pub bound_number : List Rec → Option ℕ
bound_number records = option_and_then (bind_of records) (live_of records)

-- another token is bound; or none is, and notes lie on the transport
abbrev pub bind_refusal : View → List ℕ → Option (List ℕ) → Option Deny
bind_refusal v bytes (Some token) = if bytes_eq token bytes then None else Some (OtherBound (unwrap_or (bound_number v.records) 0))
bind_refusal v bytes None = if sum v.places.transport.0 == 0 then None else Some (NotEmpty (sum v.places.transport.0))

-- what a token is refused for, whose bytes these are, beside this nonce
abbrev pub claim_refusal_at : View → List ℕ → Parts → Option Nonce → Option Deny
claim_refusal_at v bytes t None = Some (NoNonce (last_mark v.records))
claim_refusal_at v bytes t (Some nonce) =
    let due = hmac v.key (take (length bytes - MAC_FIELD) bytes) in
    if not (bytes_eq t.nonce nonce.text) then Some (WrongNonce (last_mark v.records))
    else if not (bytes_eq t.mac due) then Some (WrongMac due)
    else if is_none (amounts_of t) then Some NoAmounts
    else bind_refusal v bytes (bound_token v.records)

-- what a token is refused for, whose bytes these are, beside the nonce that lives
abbrev pub claim_refusal : View → List ℕ → Parts → Option Deny
claim_refusal v bytes t = claim_refusal_at v bytes t (live_nonce v.records)

-- the journal takes more records, and the token that these bytes spell passes every check and has these amounts
pub record Passes (v : View) (bytes : List ℕ) (amounts : List (List ℕ × ℕ)) : Type 0 where
  pub fit : unfit v ≡ None
  pub token : Parts
  pub spelled : Spells token bytes
  pub passed : claim_refusal v bytes token ≡ None
  pub amounts_are : amounts_of token ≡ Some amounts

-- the token that these bytes spell is refused for this
pub record IsRefused (v : View) (bytes : List ℕ) (refusal : Deny) : Type 0 where
  pub token : Parts
  pub spelled : Spells token bytes
  pub first : claim_refusal v bytes token ≡ Some refusal

-- the bytes spell no token, for this fault; or memory ran out
pub record IsMisspelled (bytes : List ℕ) (refusal : Deny) : Type 0 where
  pub fault : TokenFault
  pub is : IsFault bytes fault
  pub denied : refusal ≡ deny_of fault

-- why a token is refused: the journal takes no more records; else its bytes spell none, or the first check that it doesn't pass
abbrev pub TokenRefused : View → List ℕ → Deny → Type 0
TokenRefused v bytes refusal = (unfit v ≡ Some refusal) ⊎ ((unfit v ≡ None) × (IsMisspelled bytes refusal ⊎ IsRefused v bytes refusal))

-- the token is bound where none was yet, and nothing else changes; its amounts are kept then
pub record Binds (old new : View) (bytes : List ℕ) (amounts : List (List ℕ × ℕ)) : Type 0 where
  pub kept : new.bound ≡ Some amounts
  pub first : bound_token old.records ≡ None → new ≡ record old { records = old.records ++ Bind bytes ∷ []; bound = Some amounts }
  pub again : bound_token old.records ≢ None → new ≡ old

-- a number of notes of one unit, which counts from 1
abbrev pub notes_of : ℕ → ℕ → Counts
notes_of unit count = record { 0 = slice_set no_notes.0 (unit - 1) count }

-- what an ask moves, and how
abbrev pub asked_kind : Ask → Kind
asked_kind (AskStack issue unit count) = Stack
asked_kind AskPresent = Present
asked_kind AskReject = Reject
asked_kind AskRetract = Retract

abbrev pub asked_counts : View → Ask → Counts
asked_counts v (AskStack issue unit count) = notes_of unit count
asked_counts v AskPresent = v.places.transport
asked_counts v AskReject = v.places.transport
asked_counts v AskRetract = v.places.outlet

abbrev pub nothing_refusal : Counts → Option Deny
nothing_refusal counts = if sum counts.0 == 0 then Some Nothing else None

abbrev pub stack_refusal : View → ℕ → ℕ → Option (List (List ℕ × ℕ)) → Option Deny
stack_refusal v unit count None = Some (Unbound (last_mark v.records))
stack_refusal v unit count (Some amounts) =
    option_or (over_budget v amounts (notes_of unit count)) (if nat_lt (at v.places.units (unit - 1)) count then Some (Short unit) else None)

abbrev pub present_refusal : View → Option (List (List ℕ × ℕ)) → Option Deny
present_refusal v None = Some (Unbound (last_mark v.records))
present_refusal v (Some amounts) =
    if sum v.places.transport.0 == 0 then Some Nothing
    else if sum v.places.outlet.0 == 0 then None
    else Some (OutletFull (sum v.places.outlet.0))

-- what an order is refused for
abbrev pub order_refusal_at : View → Ask → Option Nonce → Option Deny
order_refusal_at v (AskStack issue unit count) None = Some (NoNonce (last_mark v.records))
order_refusal_at v (AskStack issue unit count) (Some nonce) =
    if nonce.number == issue then stack_refusal v unit count v.bound else Some (WrongNonce (last_mark v.records))
order_refusal_at v AskPresent None = Some (NoNonce (last_mark v.records))
order_refusal_at v AskPresent (Some nonce) = present_refusal v v.bound
order_refusal_at v AskReject live = nothing_refusal v.places.transport
order_refusal_at v AskRetract live = nothing_refusal v.places.outlet

-- the first refusal of an order that applies, beside the live nonce
abbrev pub order_refusal : View → Ask → Option Deny
order_refusal v ask = order_refusal_at v ask (live_nonce v.records)

-- a call answers the first refusal that applies; it is done, or wants memory, or the disk fails, only where none does
abbrev pub Answers : {T : Type 0} → Result T Deny → Option Deny → Type 0
Answers (Ok x) refusal = refusal ≡ None
Answers (Err Memory) refusal = refusal ≡ None
Answers (Err Disk) refusal = refusal ≡ None
Answers (Err e) refusal = refusal ≡ Some e

-- what may be asked: of a unit of the table at least one note
abbrev pub IsAsk : View → Ask → Type 0
IsAsk v (AskStack issue unit count) = (1 ≤ unit) × (unit ≤ length v.units) × (0 < count)
IsAsk v ask = ⊤

-- nothing refuses an ask, and this is what it moves, and how
abbrev pub IsAdmitted : View → Ask → (Kind × Counts) → Type 0
IsAdmitted v ask r = (order_refusal v ask ≡ None) × (r.0 ≡ asked_kind ask) × (r.1 ≡ asked_counts v ask)
