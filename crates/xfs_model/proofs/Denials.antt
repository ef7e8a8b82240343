-- Which refusals the checks come to: that the journal takes no more records, or one of a check of its own, which names the last mark where it names a record.
use Rattle.std.proofs.Common.{◌≡◌, ◌⊎◌, ◌==◌, ◌-◌, ℕ, Bool, true, false, List, Option, None, Some, Result, Ok, Err, sum, refl, sym, subst, ◌∙◌, inl, inr}
use Rattle.std.specs.Prelude.{nat_lt, if◌then◌else◌}
use Rattle.std.specs.Option.{IfSome, option_map, option_or}
use Rattle.std.specs.Str.{bytes_eq}
use Rattle.xfs_base.specs.Causes.{Rose}
use Rattle.xfs_base.specs.Counts.{at}
use Rattle.xfs_base.specs.declared.counts.Counts.{Counts}
use Rattle.xfs_common.specs.declared.error.ErrorCode.{ErrorCode}
use Rattle.xfs_dispenser.specs.Begins.{RoomChecks, StorageChecks, added_refusal, unit_refusal}
use Rattle.xfs_dispenser.specs.Checks.{Passed, Permits, TokenChecks, active_refusal, passed_unless, inactive_refusal, unfit_refusal, within_budget}
use Rattle.xfs_dispenser.specs.Denominations.{FirstOf, MixGiven, NotesGiven, count_refusal, currency_refusal, given_unless, members_refusal}
use Rattle.xfs_dispenser.specs.Seen.{Seen}
use Rattle.xfs_dispenser.specs.Steps.{refusal_of}
use Rattle.xfs_dispenser.specs.declared.grant.Grant.{Grant}
use Rattle.xfs_dispenser.specs.declared.named.Named.{Named}
use Rattle.xfs_dispenser.specs.declared.named.Named.TheVariants.{These, OtherName}
use Rattle.xfs_dispenser.specs.declared.notes.Notes.{Notes}
use Rattle.xfs_dispenser.specs.declared.notes.Notes.TheVariants.{Least, Individual}
use Rattle.xfs_dispenser.specs.declared.refusal.Refusal.{Refusal}
use Rattle.xfs_dispenser.specs.declared.refusal.Refusal.TheVariants as refusal
use Rattle.xfs_mix.specs.Asked.{count_fault}
use Rattle.xfs_mix.specs.declared.asked.CountFault.{CountFault}
use Rattle.xfs_mix.specs.declared.asked.CountFault.TheVariants as counted
use Rattle.xfs_guard.specs.Fits.{is_full, unfit}
use Rattle.xfs_token.specs.Amounts.{amount_in}
use Rattle.xfs_guard.specs.OverBudget.{first_currency, is_over, spent}
use Rattle.xfs_guard.specs.Refusals.{IsMisspelled, IsRefused, TokenRefused, bind_refusal, bound_token, claim_refusal_at, nothing_refusal, over_budget, order_refusal, order_refusal_at, present_refusal, stack_refusal}
use Rattle.xfs_guard.specs.Nonce.{live_nonce}
use Rattle.xfs_guard.specs.TokenDeny.{deny_of}
use Rattle.xfs_guard.specs.View.{View}
use Rattle.xfs_guard.specs.declared.ask.Ask.{Ask as Asked}
use Rattle.xfs_guard.specs.declared.ask.Ask.TheVariants as asked
use Rattle.xfs_guard.specs.declared.deny.Deny.{Deny}
use Rattle.xfs_guard.specs.declared.deny.Deny.TheVariants.{Shut, Full, TooLong, KeyNoValue, Format, NoNonce, WrongNonce, WrongMac, NoAmounts, OtherBound, NotEmpty, OverBudget, Unbound, Nothing, OutletFull, Short, Disk, Memory}
use Rattle.xfs_guard.specs.declared.nonce.Nonce.{Nonce}
use Rattle.xfs_journal.specs.Journal.{last_mark}
use Rattle.xfs_journal.specs.declared.record.Rec.{Rec}
use Rattle.xfs_token.specs.Token.{Parts}
use Rattle.xfs_token.specs.declared.faults.TokenFault.{TokenFault}
use Rattle.xfs_token.specs.declared.faults.TokenFault.TheVariants as fault

-- a refusal tells the last mark
abbrev pub SinceMark : List Rec → Deny → Type 0
SinceMark records (NoNonce since) = since ≡ last_mark records
SinceMark records (WrongNonce since) = since ≡ last_mark records
SinceMark records deny = Unit {0}

-- a refusal of its own check, which is not that the journal takes no more records, nor that the disk failed
abbrev pub OwnDeny : List Rec → Deny → Type 0
OwnDeny records Shut = ⊥
OwnDeny records Full = ⊥
OwnDeny records Disk = ⊥
OwnDeny records (NoNonce since) = since ≡ last_mark records
OwnDeny records (WrongNonce since) = since ≡ last_mark records
OwnDeny records deny = Unit {0}

pub own_since : (records : List Rec) (deny : Deny) → OwnDeny records deny → SinceMark records deny
own_since records Shut own = absurd own
own_since records Full own = absurd own
own_since records Disk own = absurd own
own_since records (NoNonce since) own = own
own_since records (WrongNonce since) own = own
own_since records TooLong own = tt
own_since records (KeyNoValue place) own = tt
own_since records (Format place) own = tt
own_since records (WrongMac due) own = tt
own_since records NoAmounts own = tt
own_since records (OtherBound since) own = tt
own_since records (NotEmpty notes) own = tt
own_since records (OverBudget currency left) own = tt
own_since records (Unbound since) own = tt
own_since records Nothing own = tt
own_since records (OutletFull notes) own = tt
own_since records (Short unit) own = tt
own_since records Memory own = tt

abbrev pub Since : List Rec → Option Deny → Type 0
Since records o = IfSome o (SinceMark records)

abbrev pub Marked : List Rec → Option Deny → Type 0
Marked records o = IfSome o (OwnDeny records)

pub of_some : {X : Type 0} (P : X → Type 0) (o : Option X) (x : X) → o ≡ Some x → IfSome o P → P x
of_some P o x e h = rw e at h

pub unfit_since : (v : View) → Since v.records (unfit v)
unfit_since v = go v.shut (is_full v)
  where
    go : (a b : Bool) → Since v.records (if a then Some Shut else if b then Some Full else None)
    go true b = tt
    go false true = tt
    go false false = tt

or_marked : (records : List Rec) (a b : Option Deny) → Marked records a → Marked records b → Marked records (option_or a b)
or_marked records None b h k = k
or_marked records (Some deny) b h k = h

mapped : (records : List Rec) (f : List ℕ → Deny) → ((c : List ℕ) → OwnDeny records (f c)) → (o : Option (List ℕ)) → Marked records (option_map f o)
mapped records f own None = tt
mapped records f own (Some c) = own c

pub budget_marked : (v : View) (amounts : List (List ℕ × ℕ)) (counts : Counts) → Marked v.records (over_budget v amounts counts)
budget_marked v amounts counts = mapped v.records (λ c. OverBudget c (record { 0 = amount_in amounts c - spent v.units v.records v.places.transport c })) (λ c. tt) (first_currency (is_over v.units v.records v.places.transport amounts counts) v.units)

nothing_marked : (v : View) (counts : Counts) → Marked v.records (nothing_refusal counts)
nothing_marked v counts = go (sum counts.0 == 0)
  where
    go : (b : Bool) → Marked v.records (if b then Some Nothing else None)
    go true = tt
    go false = tt

stack_marked : (v : View) (unit count : ℕ) (amounts : Option (List (List ℕ × ℕ))) → Marked v.records (stack_refusal v unit count amounts)
stack_marked v unit count None = tt
stack_marked v unit count (Some amounts) = or_marked v.records (over_budget v amounts _) _ (budget_marked v amounts _) (short (nat_lt (at v.places.units (unit - 1)) count))
  where
    short : (b : Bool) → Marked v.records (if b then Some (Short unit) else None)
    short true = tt
    short false = tt

present_marked : (v : View) (amounts : Option (List (List ℕ × ℕ))) → Marked v.records (present_refusal v amounts)
present_marked v None = tt
present_marked v (Some amounts) = go (sum v.places.transport.0 == 0) (sum v.places.outlet.0 == 0)
  where
    go : (a b : Bool) → Marked v.records (if a then Some Nothing else if b then None else Some (OutletFull (sum v.places.outlet.0)))
    go true b = tt
    go false true = tt
    go false false = tt

order_marked_at : (v : View) (ask : Asked) (live : Option Nonce) → Marked v.records (order_refusal_at v ask live)
order_marked_at v (asked.Stack issue unit count) None = refl
order_marked_at v (asked.Stack issue unit count) (Some nonce) = go (nonce.number == issue)
  where
    go : (b : Bool) → Marked v.records (if b then stack_refusal v unit count v.bound else Some (WrongNonce (last_mark v.records)))
    go true = stack_marked v unit count v.bound
    go false = refl
order_marked_at v asked.Present None = refl
order_marked_at v asked.Present (Some nonce) = present_marked v v.bound
order_marked_at v asked.Reject live = nothing_marked v v.places.transport
order_marked_at v asked.Retract live = nothing_marked v v.places.outlet

pub order_marked : (v : View) (ask : Asked) → Marked v.records (order_refusal v ask)
order_marked v ask = order_marked_at v ask (live_nonce v.records)

since_marked : (records : List Rec) (o : Option Deny) → Marked records o → Since records o
since_marked records None h = tt
since_marked records (Some deny) h = own_since records deny h

pub refusal_since : (v : View) (ask : Asked) → Since v.records (refusal_of v ask)
refusal_since v ask = go (unfit v) (unfit_since v)
  where
    go : (o : Option Deny) → Since v.records o → Since v.records (option_or o (order_refusal v ask))
    go None h = since_marked v.records (order_refusal v ask) (order_marked v ask)
    go (Some deny) h = h

claim_marked : (v : View) (bytes : List ℕ) (t : Parts) (live : Option Nonce) → Marked v.records (claim_refusal_at v bytes t live)
claim_marked v bytes t None = refl
claim_marked v bytes t (Some nonce) = go _ _ _ _
  where
    bind : (token : Option (List ℕ)) → Marked v.records (bind_refusal v bytes token)
    bind None = by_notes (sum v.places.transport.0 == 0)
      where
        by_notes : (b : Bool) → Marked v.records (if b then None else Some (NotEmpty (sum v.places.transport.0)))
        by_notes true = tt
        by_notes false = tt
    bind (Some token) = by_bytes (bytes_eq token bytes) _
      where
        by_bytes : (b : Bool) (place : ℕ) → Marked v.records (if b then None else Some (OtherBound place))
        by_bytes true place = tt
        by_bytes false place = tt

    go : (a b c : Bool) (due : List ℕ) → Marked v.records (if a then Some (WrongNonce (last_mark v.records)) else if b then Some (WrongMac due) else if c then Some NoAmounts else bind_refusal v bytes (bound_token v.records))
    go true b c due = refl
    go false true c due = tt
    go false false true due = tt
    go false false false due = bind (bound_token v.records)

misspelled_marked : (records : List Rec) (f : TokenFault) → OwnDeny records (deny_of f)
misspelled_marked records fault.TooLong = tt
misspelled_marked records (fault.KeyNoValue place) = tt
misspelled_marked records (fault.Format place) = tt
misspelled_marked records fault.Memory = tt

pub token_marked : (v : View) (bytes : List ℕ) (deny : Deny) → IsMisspelled bytes deny ⊎ IsRefused v bytes deny → OwnDeny v.records deny
token_marked v bytes deny (inl m) = rw (m.denied) (misspelled_marked v.records m.fault)
token_marked v bytes deny (inr r) = of_some (OwnDeny v.records) (claim_refusal_at v bytes r.token (live_nonce v.records)) deny r.first (claim_marked v bytes r.token (live_nonce v.records))

token_since : (v : View) (bytes : List ℕ) (deny : Deny) → TokenRefused v bytes deny → SinceMark v.records deny
token_since v bytes deny (inl e) = of_some (SinceMark v.records) (unfit v) deny e (unfit_since v)
token_since v bytes deny (inr (none, why)) = own_since v.records deny (token_marked v bytes deny why)

-- what holds of each refusal that the checks beside this guard may come to
pub record IsGood (v : View) (G : Refusal → Type 0) : Type 0 where
  pub invalid : G refusal.InvalidData
  pub no_token : G refusal.NoToken
  pub error : (code : ErrorCode) → G (refusal.Error code)
  pub barred : (deny : Deny) → unfit v ≡ Some deny → G (refusal.Deny deny)
  pub own : (deny : Deny) → OwnDeny v.records deny → G (refusal.Deny deny)

err_same : {T : Type 0} (a b : Refusal) → ◌≡◌ {A = Result T Refusal} (Err a) (Err b) → a ≡ b
err_same {T = T} a b e = cc

err_ok : {T : Type 0} (r : Refusal) (x : T) → ◌≡◌ {A = Result T Refusal} (Err r) (Ok x) → ⊥
err_ok {T = T} r x e = cc

module _ (v : View) (G : Refusal → Type 0) (good : IsGood v G) where
  good_is : (a b : Refusal) → a ≡ b → G b → G a
  good_is a b e h = subst G (sym e) h

  first_good : {T : Type 0} (o : Option Refusal) (Later : Result T Refusal → Type 0) (r : Refusal) → IfSome o G → (Later (Err r) → G r) → FirstOf o Later (Err r) → G r
  first_good None Later r h later is = later is
  first_good {T = T} (Some q) Later r h later is = good_is r q (err_same {T = T} r q is) h

  if_good : (b : Bool) (q : Refusal) → G q → IfSome (if b then None else Some q) G
  if_good true q h = tt
  if_good false q h = h

  members_good : (notes : Notes) → IfSome (members_refusal notes) G
  members_good (Least currency amount) = if_good _ refusal.InvalidData good.invalid
  members_good (Individual named) = tt

  pub active_good : (exchange : Bool) → IfSome (active_refusal exchange) G
  active_good true = good.error _
  active_good false = tt

  pub inactive_good : (exchange : Bool) → IfSome (inactive_refusal exchange) G
  inactive_good true = tt
  inactive_good false = good.error _

  unfit_good : IfSome (unfit_refusal v) G
  unfit_good = go (unfit v) refl
    where
      go : (o : Option Deny) → unfit v ≡ o → IfSome (option_map (λ deny. refusal.Deny deny) o) G
      go None e = tt
      go (Some deny) e = good.barred deny e

  mix_good : (have : Counts) (currency : List ℕ) (amount : ℕ) (r : Refusal) → MixGiven v.units have currency amount (Err r) → G r
  mix_good have currency amount refusal.InvalidData is = good.invalid
  mix_good have currency amount refusal.NoToken is = good.no_token
  mix_good have currency amount (refusal.Error code) is = good.error code
  mix_good have currency amount (refusal.Deny deny) is = absurd is
  mix_good have currency amount refusal.Memory is = absurd is

  count_good : (f : CountFault) → G (count_refusal f)
  count_good counted.Empty = good.error _
  count_good counted.TooMany = good.error _
  count_good (counted.Short unit) = good.error _

  notes_good : (have : Counts) (notes : Notes) (r : Refusal) → NotesGiven v.units have notes (Err r) → G r
  notes_good have (Least currency amount) r is = first_good {T = Counts} (currency_refusal v.units currency) (MixGiven v.units have currency amount) r (if_good _ _ (good.error _)) (mix_good have currency amount r) is
  notes_good have (Individual OtherName) r is = good_is r _ (err_same {T = Counts} r _ is) (good.error _)
  notes_good have (Individual (These counts)) r is = go (count_fault v.units have counts) is
    where
      go : (o : Option CountFault) → Err r ≡ given_unless counts o → G r
      go None e = absurd (err_ok {T = Counts} r counts e)
      go (Some f) e = good_is r (count_refusal f) (err_same {T = Counts} r (count_refusal f) e) (count_good f)

  token_good : (notes : Notes) (token : Option (List ℕ)) (r : Refusal) → TokenChecks v notes token (Err r) → G r
  token_good notes None r is = good_is r refusal.NoToken (err_same {T = Passed} r refusal.NoToken is) good.no_token
  token_good notes (Some token) r (inl refused) = good_is r (refusal.Deny refused.deny) (err_same {T = Passed} r _ refused.is) (why refused.refused)
    where
      why : TokenRefused v token refused.deny → G (refusal.Deny refused.deny)
      why (inl e) = good.barred refused.deny e
      why (inr (fit, other)) = good.own refused.deny (token_marked v token refused.deny other)
  token_good notes (Some token) r (inr token_passed) = given token_passed.given token_passed.gives token_passed.is
    where
      granted : (passed : Passed) (o : Option Deny) → Marked v.records o → Err r ≡ passed_unless passed o → G r
      granted passed None h e = absurd (err_ok {T = Passed} r passed e)
      granted passed (Some deny) h e = good_is r (refusal.Deny deny) (err_same {T = Passed} r _ e) (good.own deny h)

      given : (g : Result Counts Refusal) → NotesGiven v.units v.places.units notes g → Err r ≡ within_budget v token token_passed.amounts g → G r
      given (Err q) gives e = good_is r q (err_same {T = Passed} r q e) (notes_good v.places.units notes q gives)
      given (Ok counts) gives e = granted _ (over_budget v token_passed.amounts counts) (budget_marked v token_passed.amounts counts) e

  added_good : (added : Named) → IfSome (added_refusal added) G
  added_good OtherName = tt
  added_good (These added) = if_good _ refusal.InvalidData good.invalid

  unit_good : (added : Named) → IfSome (unit_refusal v.units added) G
  unit_good OtherName = good.error _
  unit_good (These added) = if_good _ _ (good.error _)

  room_good : (added : Named) (r : Refusal) → RoomChecks v added (Err r) → G r
  room_good OtherName r is = absurd is
  room_good (These counts) r is = good_is r _ is.0 (good.error _)

  -- what Denominate, SetStorage and Dispense are refused for
  pub denominate_good : (notes : Notes) (given : Result Counts Refusal) → FirstOf (members_refusal notes) (NotesGiven v.units v.places.units notes) given → (r : Refusal) → given ≡ Err r → G r
  denominate_good notes given checks r e =
      first_good {T = Counts} (members_refusal notes) (NotesGiven v.units v.places.units notes) r (members_good notes) (notes_good v.places.units notes r) (rw e at checks)

  pub storage_good : (exchange : Bool) (added : Named) (checked : Result Counts Refusal) → StorageChecks v exchange added checked → (r : Refusal) → checked ≡ Err r → G r
  storage_good exchange added checked checks r e =
      first_good {T = Counts} (added_refusal added) (FirstOf (inactive_refusal exchange) (FirstOf (unfit_refusal v) (FirstOf (unit_refusal v.units added) (RoomChecks v added)))) r (added_good added)
      (first_good {T = Counts} (inactive_refusal exchange) (FirstOf (unfit_refusal v) (FirstOf (unit_refusal v.units added) (RoomChecks v added))) r (inactive_good exchange)
      (first_good {T = Counts} (unfit_refusal v) (FirstOf (unit_refusal v.units added) (RoomChecks v added)) r unfit_good
      (first_good {T = Counts} (unit_refusal v.units added) (RoomChecks v added) r (unit_good added) (room_good added r)))) (rw e at checks)

  dispense_good : (exchange : Bool) (notes : Notes) (token : Option (List ℕ)) (q : Refusal) → FirstOf (members_refusal notes) (FirstOf (active_refusal exchange) (FirstOf (unfit_refusal v) (TokenChecks v notes token))) (Err q) → G q
  dispense_good exchange notes token q checks =
      first_good {T = Passed} (members_refusal notes) (FirstOf (active_refusal exchange) (FirstOf (unfit_refusal v) (TokenChecks v notes token))) q (members_good notes)
      (first_good {T = Passed} (active_refusal exchange) (FirstOf (unfit_refusal v) (TokenChecks v notes token)) q (active_good exchange)
      (first_good {T = Passed} (unfit_refusal v) (TokenChecks v notes token) q unfit_good (token_good notes token q))) checks

-- what a grant to stack is refused for, or its disk failed
pub grant_good : (s : Seen) (G : Refusal → Type 0) → IsGood s.guard G → (next : Seen) → (Rose s.disk_faults next.disk_faults → G (refusal.Deny Disk)) → (exchange : Bool) (notes : Notes) (token : Option (List ℕ)) (checked : Result Passed Refusal) (grant : Result Grant Refusal)
    → FirstOf (members_refusal notes) (FirstOf (active_refusal exchange) (FirstOf (unfit_refusal s.guard) (TokenChecks s.guard notes token))) checked → Permits s checked grant next
    → (r : Refusal) → grant ≡ Err r → G r
grant_good s G good next disk exchange notes token (Err q) grant checks permits r e = good_is s.guard G good r q (err_same {T = Grant} r q (sym e ∙ permits.0)) (dispense_good s.guard G good exchange notes token q checks)
grant_good s G good next disk exchange notes token (Ok passed) grant checks (inl p) r e = absurd (err_ok {T = Grant} r _ (sym e ∙ p.is))
grant_good s G good next disk exchange notes token (Ok passed) grant checks (inr u) r e = good_is s.guard G good r (refusal.Deny Disk) (err_same {T = Grant} r _ (sym e ∙ u.is)) (disk u.fails.cause)
