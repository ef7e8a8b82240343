-- The record that a refusal names: the last mark, or the Bind of the bound token.
use Rattle.std.proofs.Common.{◌≡◌, ⊎_elim, ℕ, Bool, true, false, List, length, None, Some, Ok, Err, refl, subst}
use Rattle.std.specs.Prelude.{◌==◌, ◌-◌, nat_lt, not, is_none, take, sum, ⊤, if◌then◌else◌, IfErr}
use Rattle.std.specs.Option.{option_and_then, option_map, option_or, unwrap_or}
use Rattle.std.specs.Str.{bytes_eq}
use Rattle.std.specs.declared.option.Option.{Option}
use Rattle.std.specs.declared.result.Result.{Result}
use Rattle.std.proofs.lemmas.Option.{none-some}
use Rattle.xfs_base.specs.Counts.{at}
use Rattle.xfs_base.specs.declared.counts.Counts.{Counts}
use Rattle.xfs_hmac.specs.Hmac.{hmac}
use Rattle.xfs_token.specs.Token.{Parts}
use Rattle.xfs_token.specs.Amounts.{amount_in, amounts_of}
use Rattle.xfs_token.specs.declared.text.TheConstants.{MAC_FIELD}
use Rattle.xfs_token.specs.declared.faults.TokenFault.{TokenFault}
use Rattle.xfs_token.specs.declared.faults.TokenFault.TheVariants as Fault
use Rattle.xfs_journal.specs.Journal.{Binding, binding_of, live_of, last_mark}
use Rattle.xfs_journal.specs.declared.record.Rec.{Rec}
use Rattle.xfs_guard.specs.declared.ask.Ask.{Ask}
use Rattle.xfs_guard.specs.declared.ask.Ask.TheVariants.{Stack as AskStack, Present as AskPresent, Reject as AskReject, Retract as AskRetract}
use Rattle.xfs_guard.specs.declared.deny.Deny.{Deny}
use Rattle.xfs_guard.specs.declared.deny.Deny.TheVariants.{Shut, Full, TooLong, KeyNoValue, Format, NoNonce, WrongNonce, WrongMac, NoAmounts, OtherBound, NotEmpty, OverBudget, Unbound, Nothing, OutletFull, Short, Disk, Memory}
use Rattle.xfs_guard.specs.declared.nonce.Nonce.{Nonce}
use Rattle.xfs_guard.specs.Fits.{is_full, unfit}
use Rattle.xfs_guard.specs.Named.{NamesRecord}
use Rattle.xfs_guard.specs.Nonce.{live_nonce}
use Rattle.xfs_guard.specs.OverBudget.{first_currency, is_over, spent}
use Rattle.xfs_guard.specs.Refusals.{Answers, TokenRefused, bind_refusal, bound_number, bound_token, claim_refusal, claim_refusal_at, nothing_refusal, notes_of, order_refusal, order_refusal_at, over_budget, present_refusal, stack_refusal}
use Rattle.xfs_guard.specs.TokenDeny.{deny_of}
use Rattle.xfs_guard.specs.View.{View}

-- a refusal, where there is one, names its record
abbrev Names : List Rec → Option Deny → Type 0
Names records None = ⊤
Names records (Some deny) = NamesRecord records deny

when : (records : List Rec) (b : Bool) (deny : Deny) (rest : Option Deny) → NamesRecord records deny → Names records rest → Names records (if b then Some deny else rest)
when records true deny rest one other = one
when records false deny rest one other = other

first : (records : List Rec) (one other : Option Deny) → Names records one → Names records other → Names records (option_or one other)
first records None other one two = two
first records (Some deny) other one two = one

of_some : (records : List Rec) (refusal : Option Deny) (deny : Deny) → Names records refusal → refusal ≡ Some deny → NamesRecord records deny
of_some records refusal deny names is = subst (Names records) is names

unfit-at : (v : View) (shut full : Bool) → Names v.records (if shut then Some Shut else if full then Some Full else None)
unfit-at v true full = tt
unfit-at v false true = tt
unfit-at v false false = tt

nothing-names : (records : List Rec) (counts : Counts) → Names records (nothing_refusal counts)
nothing-names records counts = when records (sum counts.0 == 0) Nothing None tt tt

over-names : (v : View) (amounts : List (List ℕ × ℕ)) (counts : Counts) → Names v.records (over_budget v amounts counts)
over-names v amounts counts = go (first_currency (is_over v.units v.records v.places.transport amounts counts) v.units)
  where
    go : (c : Option (List ℕ)) → Names v.records (option_map (λ c. OverBudget c (record { 0 = amount_in amounts c - spent v.units v.records v.places.transport c })) c)
    go None = tt
    go (Some c) = tt

stack-names : (v : View) (unit count : ℕ) (bound : Option (List (List ℕ × ℕ))) → Names v.records (stack_refusal v unit count bound)
stack-names v unit count None = refl
stack-names v unit count (Some amounts) =
    first v.records (over_budget v amounts (notes_of unit count)) (if nat_lt (at v.places.units (unit - 1)) count then Some (Short unit) else None)
    (over-names v amounts (notes_of unit count)) (when v.records (nat_lt (at v.places.units (unit - 1)) count) (Short unit) None tt tt)

outlet-names : (v : View) (b : Bool) → Names v.records (if b then None else Some (OutletFull (sum v.places.outlet.0)))
outlet-names v true = tt
outlet-names v false = tt

present-names : (v : View) (bound : Option (List (List ℕ × ℕ))) → Names v.records (present_refusal v bound)
present-names v None = refl
present-names v (Some amounts) =
    when v.records (sum v.places.transport.0 == 0) Nothing (if sum v.places.outlet.0 == 0 then None else Some (OutletFull (sum v.places.outlet.0))) tt (outlet-names v (sum v.places.outlet.0 == 0))

order-at : (v : View) (ask : Ask) (live : Option Nonce) → Names v.records (order_refusal_at v ask live)
order-at v (AskStack issue unit count) None = refl
order-at v (AskStack issue unit count) (Some nonce) = by (nonce.number == issue)
  where
    by : (b : Bool) → Names v.records (if b then stack_refusal v unit count v.bound else Some (WrongNonce (last_mark v.records)))
    by true = stack-names v unit count v.bound
    by false = refl
order-at v AskPresent None = refl
order-at v AskPresent (Some nonce) = present-names v v.bound
order-at v AskReject live = nothing-names v.records v.places.transport
order-at v AskRetract live = nothing-names v.records v.places.outlet

-- where a token is bound, its Bind has a number
has-number : (records : List Rec) (token : List ℕ) → bound_token records ≡ Some token → bound_number records ≡ Some (unwrap_or (bound_number records) 0)
has-number records token bound = of (live_of records) refl bound
  where
    found : (p : ℕ) (o : Option Binding) → live_of records ≡ Some p → binding_of records p ≡ o → option_map (λ (b : Binding). b.token) o ≡ Some token
        → bound_number records ≡ Some (unwrap_or (bound_number records) 0)
    found p None lives is e = absurd (none-some token e)
    found p (Some b) lives is e = rw (lives, is) refl

    of : (l : Option ℕ) → live_of records ≡ l → option_and_then (λ p. option_map (λ (b : Binding). b.token) (binding_of records p)) l ≡ Some token
        → bound_number records ≡ Some (unwrap_or (bound_number records) 0)
    of None is e = absurd (none-some token e)
    of (Some p) is e = found p (binding_of records p) is refl e

bind-at : (v : View) (bytes : List ℕ) (bound : Option (List ℕ)) → bound_token v.records ≡ bound → Names v.records (bind_refusal v bytes bound)
bind-at v bytes None is = by (sum v.places.transport.0 == 0)
  where
    by : (b : Bool) → Names v.records (if b then None else Some (NotEmpty (sum v.places.transport.0)))
    by true = tt
    by false = tt
bind-at v bytes (Some token) is = by (bytes_eq token bytes)
  where
    by : (b : Bool) → Names v.records (if b then None else Some (OtherBound (unwrap_or (bound_number v.records) 0)))
    by true = tt
    by false = has-number v.records token is

claim-at : (v : View) (bytes : List ℕ) (t : Parts) (live : Option Nonce) → Names v.records (claim_refusal_at v bytes t live)
claim-at v bytes t None = refl
claim-at v bytes t (Some nonce) =
    let due = hmac v.key (take (length bytes - MAC_FIELD) bytes) in
    let bind = bind_refusal v bytes (bound_token v.records) in
    let amounts = if is_none (amounts_of t) then Some NoAmounts else bind in
    let mac = if not (bytes_eq t.mac due) then Some (WrongMac due) else amounts in
    when v.records (not (bytes_eq t.nonce nonce.text)) (WrongNonce (last_mark v.records)) mac refl
    (when v.records (not (bytes_eq t.mac due)) (WrongMac due) amounts tt
    (when v.records (is_none (amounts_of t)) NoAmounts bind tt
    (bind-at v bytes (bound_token v.records) refl)))

fault-names : (records : List Rec) (fault : TokenFault) → NamesRecord records (deny_of fault)
fault-names records Fault.TooLong = tt
fault-names records (Fault.KeyNoValue at) = tt
fault-names records (Fault.Format at) = tt
fault-names records Fault.Memory = tt

-- what each call that writes is refused for first names no record
pub unfit-names : (v : View) (deny : Deny) → unfit v ≡ Some deny → NamesRecord v.records deny
unfit-names v deny is = of_some v.records (unfit v) deny (unfit-at v v.shut (is_full v)) is

-- what an order is refused for: its since is the number of the last mark
pub order-names : (v : View) (ask : Ask) (deny : Deny) → order_refusal v ask ≡ Some deny → NamesRecord v.records deny
order-names v ask deny is = of_some v.records (order_refusal v ask) deny (order-at v ask (live_nonce v.records)) is

-- what a call of an order answers
pub asked-names : (v : View) (ask : Ask) (deny : Deny) → option_or (unfit v) (order_refusal v ask) ≡ Some deny → NamesRecord v.records deny
asked-names v ask deny is =
    of_some v.records (option_or (unfit v) (order_refusal v ask)) deny
    (first v.records (unfit v) (order_refusal v ask) (unfit-at v v.shut (is_full v)) (order-at v ask (live_nonce v.records))) is

-- what a token is refused for that the bytes spell: its since is the number of the last mark, or of the Bind of the bound token
pub claim-names : (v : View) (bytes : List ℕ) (t : Parts) (deny : Deny) → claim_refusal v bytes t ≡ Some deny → NamesRecord v.records deny
claim-names v bytes t deny is = of_some v.records (claim_refusal v bytes t) deny (claim-at v bytes t (live_nonce v.records)) is

-- what a token's bytes are refused for
pub token-names : (v : View) (bytes : List ℕ) (deny : Deny) → TokenRefused v bytes deny → NamesRecord v.records deny
token-names v bytes deny refused =
    ⊎_elim (λ is. unfit-names v deny is)
    (λ later. ⊎_elim (λ m. rw m.denied (fault-names v.records m.fault)) (λ r. claim-names v bytes r.token deny r.first) later.1) refused

-- what an allowed token's counts are refused for names no record
pub budget-names : (v : View) (amounts : List (List ℕ × ℕ)) (counts : Counts) (deny : Deny) → over_budget v amounts counts ≡ Some deny → NamesRecord v.records deny
budget-names v amounts counts deny is = of_some v.records (over_budget v amounts counts) deny (over-names v amounts counts) is

-- a call that answers the first refusal that applies answers one that names its record, where each such refusal does
pub answer-names : {T : Type 0} (records : List Rec) (result : Result T Deny) (refusal : Option Deny) → Answers result refusal
    → ((deny : Deny) → refusal ≡ Some deny → NamesRecord records deny) → IfErr result (NamesRecord records)
answer-names records (Ok x) refusal is each = tt
answer-names records (Err Memory) refusal is each = tt
answer-names records (Err Disk) refusal is each = tt
answer-names records (Err Shut) refusal is each = tt
answer-names records (Err Full) refusal is each = tt
answer-names records (Err TooLong) refusal is each = tt
answer-names records (Err (KeyNoValue at)) refusal is each = tt
answer-names records (Err (Format at)) refusal is each = tt
answer-names records (Err (NoNonce since)) refusal is each = each (NoNonce since) is
answer-names records (Err (WrongNonce since)) refusal is each = each (WrongNonce since) is
answer-names records (Err (WrongMac due)) refusal is each = tt
answer-names records (Err NoAmounts) refusal is each = tt
answer-names records (Err (OtherBound since)) refusal is each = each (OtherBound since) is
answer-names records (Err (NotEmpty notes)) refusal is each = tt
answer-names records (Err (OverBudget currency left)) refusal is each = tt
answer-names records (Err (Unbound since)) refusal is each = each (Unbound since) is
answer-names records (Err Nothing) refusal is each = tt
answer-names records (Err (OutletFull notes)) refusal is each = tt
answer-names records (Err (Short unit)) refusal is each = tt
