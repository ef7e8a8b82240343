-- Nothing that is seen of a guard stands against a dispense that its token covers, nor against a present behind it.
use Rattle.std.proofs.Common.{◌≡◌, ◌≢◌, ◌≤◌, ◌<◌, ◌+◌, ◌-◌, ◌*◌, ℕ, zero, suc, Bool, true, false, List, [], ◌∷◌, ◌++◌, length, get_or, None, Some, inl, inr, refl, sym, ◌∙◌, ap, arith, length-append}
use Rattle.std.specs.Prelude.{nat_lt, slice_index, if◌then◌else◌, ◌||◌}
use Rattle.std.specs.Option.{option_map, option_and_then, option_or}
use Rattle.std.specs.declared.option.Option.{Option}
use Rattle.std.proofs.lemmas.Bool.{le-ltb, cases_eq}
use Rattle.std.proofs.lemmas.List.{get_or-set_other}
use Rattle.std.proofs.lemmas.Grind.{get_or-set_at}
use Rattle.xfs_base.specs.Counts.{at}
use Rattle.xfs_base.specs.Money.{value, value_from}
use Rattle.xfs_base.specs.declared.counts.Counts.{Counts}
use Rattle.xfs_base.specs.declared.counts.Kind.TheVariants.{Stack}
use Rattle.xfs_base.specs.declared.money.NoteKind.{NoteKind}
use Rattle.xfs_base.proofs.MoneyLaws.{value_from-le}
use Rattle.xfs_token.specs.Amounts.{amount_in}
use Rattle.xfs_journal.specs.Image.{counts_bytes, body, size}
use Rattle.xfs_journal.proofs.Decoding.{length-numbers}
use Rattle.xfs_journal.specs.Journal.{live_of, live_after, record_at}
use Rattle.xfs_journal.specs.declared.record.Rec.{Rec}
use Rattle.xfs_journal.specs.declared.record.Rec.TheVariants.{Order, Done}
use Rattle.xfs_journal.proofs.JournalLaws.{live_of-push, record_at-push, eqb-same}
use Rattle.xfs_guard.specs.Balance.{no_notes}
use Rattle.xfs_guard.specs.View.{View}
use Rattle.xfs_guard.specs.Fits.{unfit}
use Rattle.xfs_guard.specs.Nonce.{nonce_of, live_nonce}
use Rattle.xfs_guard.specs.OverBudget.{first_currency, is_over}
use Rattle.xfs_guard.specs.Presented.{presented_in, done_worth}
use Rattle.xfs_guard.specs.Refusals.{notes_of, over_budget, order_refusal, order_refusal_at}
use Rattle.xfs_guard.specs.declared.ask.Ask.TheVariants.{Stack as AskStack}
use Rattle.xfs_guard.specs.declared.deny.Deny.{Deny}
use Rattle.xfs_guard.specs.declared.deny.Deny.TheVariants.{Shut, Full}
use Rattle.xfs_guard.specs.declared.nonce.Nonce.{Nonce}
use Rattle.xfs_guard.proofs.BalanceLaws.{none_there}
use Rattle.xfs_guard.proofs.PresentedLaws.{presented_in-push}
use Rattle.xfs_guard.proofs.RecordLaws.{last-pushed, lives-within}
use Rattle.std.specs.Prelude.{sum, take}
use Rattle.std.specs.Str.{bytes_eq}
use Rattle.std.proofs.lemmas.Bool.{eq-eqb, ne_eqb}
use Rattle.std.proofs.lemmas.Slice.Eq.{bytes_eq-Decides}
use Rattle.xfs_hmac.specs.Hmac.{hmac}
use Rattle.xfs_token.specs.Amounts.{amounts_of}
use Rattle.xfs_token.proofs.Whole.{one_token}
use Rattle.xfs_guard.specs.Covered.{CanDispense, CanPresent, IsBindable, IsGood}
use Rattle.xfs_guard.specs.Refusals.{Passes, bound_token, bind_refusal, claim_refusal}
use Rattle.xfs_guard.specs.declared.ask.Ask.TheVariants.{Present as AskPresent}

-- counts from the unit u on, behind units without notes
abbrev pub ahead : ℕ → List ℕ → List ℕ
ahead zero counts = counts
ahead (suc u) counts = 0 ∷ ahead u counts

pub ahead-zero : (u : ℕ) (rest : List ℕ) → ahead u (0 ∷ rest) ≡ ahead (suc u) rest
ahead-zero zero rest = refl
ahead-zero (suc u) rest = ap (λ l. 0 ∷ l) (ahead-zero u rest)

pub ahead-here : (u n : ℕ) (rest : List ℕ) → get_or (ahead u (n ∷ rest)) u 0 ≡ n
ahead-here zero n rest = refl
ahead-here (suc u) n rest = ahead-here u n rest

pub ahead-behind : (u : ℕ) (rest : List ℕ) → get_or (ahead (suc u) rest) u 0 ≡ 0
ahead-behind zero rest = refl
ahead-behind (suc u) rest = ahead-behind u rest

ahead-other : (u n w : ℕ) (rest : List ℕ) → w ≢ u → get_or (ahead u (n ∷ rest)) w 0 ≡ get_or (ahead (suc u) rest) w 0
ahead-other zero n zero rest other = absurd (other refl)
ahead-other zero n (suc w) rest other = refl
ahead-other (suc u) n zero rest other = refl
ahead-other (suc u) n (suc w) rest other = ahead-other u n w rest (λ e. other (ap suc e))

pub ahead-none : (u w : ℕ) → get_or (ahead u []) w 0 ≡ 0
ahead-none zero w = refl
ahead-none (suc u) zero = refl
ahead-none (suc u) (suc w) = ahead-none u w

pub notes-here : (u n : ℕ) → u < 8 → at (notes_of (u + 1) n) u ≡ n
notes-here u n low = get_or-set_at no_notes.0 (u + 1 - 1) u n 0 (omega arith) (omega (arith, low))

pub notes-other : (u n w : ℕ) → w ≢ u → at (notes_of (u + 1) n) w ≡ 0
notes-other u n w other = get_or-set_other no_notes.0 (u + 1 - 1) w n 0 (λ e. other (omega (arith, e))) ∙ none_there w

-- the first unit's notes, and those of the next units
pub ahead-split : (u n w : ℕ) (rest : List ℕ) → u < 8 → slice_index (ahead u (n ∷ rest)) w ≡ at (notes_of (u + 1) n) w + slice_index (ahead (suc u) rest) w
ahead-split u n w rest low = elim (cases_eq w u) [
  | inl same ↦ (
      let a : get_or (ahead u (n ∷ rest)) w 0 ≡ n = rw same (ahead-here u n rest) in
      let b : at (notes_of (u + 1) n) w ≡ n = rw same (notes-here u n low) in
      let c : get_or (ahead (suc u) rest) w 0 ≡ 0 = rw same (ahead-behind u rest) in
      omega (arith, a, b, c)
      )
  | inr other ↦ (let a = ahead-other u n w rest other in let b = notes-other u n w other in omega (arith, a, b))
]

-- the live nonce stays where a record is no mark
pub nonce-push : (records : List Rec) (r : Rec) → ((count : ℕ) (live : Option ℕ) → live_after count live r ≡ live) → live_nonce (records ++ r ∷ []) ≡ live_nonce records
nonce-push records r plain = ap (λ l. option_and_then (λ p. nonce_of (record_at (records ++ r ∷ []) p)) l) (live_of-push records r ∙ plain (length records) (live_of records)) ∙ go (live_of records) refl
  where
    go : (l : Option ℕ) → live_of records ≡ l → option_and_then (λ p. nonce_of (record_at (records ++ r ∷ []) p)) l ≡ option_and_then (λ p. nonce_of (record_at records p)) l
    go None e = refl
    go (Some p) e = ap nonce_of (record_at-push records r p (rw e at (lives-within records)))

-- the journal is open, and takes so many orders with their Dones; the nonce of this issue lives, and these amounts are kept
pub record IsOpenFor (v : View) (issue : ℕ) (kept : List (List ℕ × ℕ)) (orders : ℕ) : Type 0 where
  pub open_still : v.shut ≡ false
  pub booted : v.boot_missing ≡ false
  pub records : length v.records - v.base + (2 * orders + 3) ≤ v.limits.records
  pub bytes : size v.records + (105 * orders + 2048) ≤ v.limits.bytes
  pub lives : option_map (λ (n : Nonce). n.number) (live_nonce v.records) ≡ Some issue
  pub bound : v.bound ≡ Some kept

-- these counts lie in the units, and are within the amounts
pub record IsAhead (v : View) (amounts : List (List ℕ × ℕ)) (counts : List ℕ) : Type 0 where
  pub lie : (w : ℕ) → slice_index counts w ≤ at v.places.units w
  pub enough : (c : List ℕ) → presented_in v.units v.records c + value v.units v.places.transport c + value_from v.units 0 counts c ≤ amount_in amounts c

pub unfit-none : (v : View) → v.shut ≡ false → v.boot_missing ≡ false → length v.records - v.base + 3 ≤ v.limits.records → size v.records + 2048 ≤ v.limits.bytes → unfit v ≡ None
unfit-none v shut booted many long =
    go v.shut v.boot_missing (nat_lt (v.limits.records - (length v.records - v.base)) 3) (nat_lt (v.limits.bytes - size v.records) 2048) shut booted
    (le-ltb (v.limits.records - (length v.records - v.base)) 3 (omega (arith, many))) (le-ltb (v.limits.bytes - size v.records) 2048 (omega (arith, long)))
  where
    go : (s m a b : Bool) → s ≡ false → m ≡ false → a ≡ false → b ≡ false → (if s then Some Shut else if m || (a || b) then Some Full else None) ≡ None
    go s m a b e f g h = rw (e, f, g, h) refl

first-no : (test : List ℕ → Bool) (ks : List NoteKind) → ((c : List ℕ) → test c ≡ false) → first_currency test ks ≡ None
first-no test [] never = refl
first-no test (k ∷ ks) never = rw (never k.currency) (first-no test ks never)

-- counts that are covered pass in no currency
pub budget-none : (v : View) (amounts : List (List ℕ × ℕ)) (counts : Counts)
    → ((c : List ℕ) → presented_in v.units v.records c + value v.units v.places.transport c + value v.units counts c ≤ amount_in amounts c) → over_budget v amounts counts ≡ None
budget-none v amounts counts enough =
    rw (first-no (is_over v.units v.records v.places.transport amounts counts) v.units (λ c. le-ltb (amount_in amounts c) (presented_in v.units v.records c + value v.units v.places.transport c + value v.units counts c) (enough c))) refl

-- the order of the next unit isn't refused
pub free-order : (v : View) (issue u n : ℕ) (amounts : List (List ℕ × ℕ)) (rest : List ℕ) → u < 8 → IsOpenFor v issue amounts (suc (length rest)) → IsAhead v amounts (ahead u (n ∷ rest))
    → option_or (unfit v) (order_refusal v (AskStack issue (u + 1) n)) ≡ None
free-order v issue u n amounts rest low o h =
    both (unfit v) (order_refusal v (AskStack issue (u + 1) n)) (unfit-none v o.open_still o.booted (omega (arith, o.records)) (omega (arith, o.bytes))) (live (live_nonce v.records) o.lives)
  where
    both : (a b : Option Deny) → a ≡ None → b ≡ None → option_or a b ≡ None
    both a b e f = rw (e, f) refl

    few : (w : ℕ) → at (notes_of (u + 1) n) w ≤ slice_index (ahead u (n ∷ rest)) w
    few w = let e = ahead-split u n w rest low in omega (arith, e)

    covered : over_budget v amounts (notes_of (u + 1) n) ≡ None
    covered = budget-none v amounts (notes_of (u + 1) n) (λ c.
        let e = value_from-le v.units 0 (notes_of (u + 1) n).0 (ahead u (n ∷ rest)) c few in
        let f = h.enough c in
        omega (arith, e, f))

    held : nat_lt (at v.places.units (u + 1 - 1)) n ≡ false
    held =
        let e : u + 1 - 1 ≡ u = omega arith in
        le-ltb (at v.places.units (u + 1 - 1)) n (rw e (let a = ahead-here u n rest in let b = h.lie u in omega (arith, a, b)))

    live : (l : Option Nonce) → option_map (λ (n : Nonce). n.number) l ≡ Some issue → order_refusal_at v (AskStack issue (u + 1) n) l ≡ None
    live None e = cc
    live (Some nonce) e = (let is : nonce.number ≡ issue = cc in rw (is, eqb-same issue, o.bound, covered, held) refl)

pub done-short : (m d : Counts) → length m.0 ≡ 8 → length d.0 ≡ 8 → length (body (Done m d)) ≡ 65
done-short m d e f = omega (arith, length-append (counts_bytes m) (counts_bytes d), length-numbers m.0, length-numbers d.0, e, f)

-- what an order of a unit presents, which is nothing
pub presented-after : (units : List NoteKind) (records : List Rec) (m n d : Counts) (c : List ℕ) → presented_in units ((records ++ Order Stack m ∷ []) ++ Done n d ∷ []) c ≡ presented_in units records c
presented-after units records m n d c =
    let list = records ++ Order Stack m ∷ [] in
    let a : presented_in units (list ++ Done n d ∷ []) c ≡ presented_in units list c + done_worth units c (record_at list (length list)) n = presented_in-push units list (Done n d) c in
    let b : presented_in units list c ≡ presented_in units records c = presented_in-push units records (Order Stack m) c in
    let e : done_worth units c (record_at list (length list)) n ≡ 0 = ap (λ r. done_worth units c r n) (last-pushed records (Order Stack m)) in
    omega (arith, a, b, e)

same-bytes : (a b : List ℕ) → a ≡ b → bytes_eq a b ≡ true
same-bytes a b e = (bytes_eq-Decides a b).1 e

pub bind-none : (v : View) (bytes : List ℕ) → IsBindable v bytes → bind_refusal v bytes (bound_token v.records) ≡ None
bind-none v bytes (inl b) = rw (b, same-bytes bytes bytes refl) refl
bind-none v bytes (inr f) = rw (f.none, eq-eqb (sum v.places.transport.0) 0 f.empty) refl

-- a good token is not refused
pub claim-none : (v : View) (bytes : List ℕ) (amounts : List (List ℕ × ℕ)) (g : IsGood v bytes amounts) → IsBindable v bytes → claim_refusal v bytes g.token ≡ None
claim-none v bytes amounts g b =
    rw (g.lives, same-bytes g.token.nonce g.nonce.text g.carried, same-bytes g.token.mac (hmac v.key (take (length bytes - 76) bytes)) g.genuine.mac, g.amounts_are) (bind-none v bytes b)

-- a token that passes has the amounts of the good one
pub same-amounts : (v : View) (bytes : List ℕ) (amounts other : List (List ℕ × ℕ)) → IsGood v bytes amounts → Passes v bytes other → other ≡ amounts
same-amounts v bytes amounts other g p =
    let one = one_token p.token g.token bytes p.spelled g.genuine.spelled in
    let e : Some other ≡ Some amounts = sym p.amounts_are ∙ (ap amounts_of one ∙ g.amounts_are) in
    cc

pub can-fit : (v : View) (bytes : List ℕ) (counts : Counts) → CanDispense v bytes counts → unfit v ≡ None
can-fit v bytes counts c = unfit-none v c.room.open_still c.room.booted (let e = c.room.records in omega (arith, e)) (let e = c.room.bytes in omega (arith, e))

pub present-free : (v : View) → CanPresent v → option_or (unfit v) (order_refusal v AskPresent) ≡ None
present-free v c = both (unfit v) (order_refusal v AskPresent) (unfit-none v c.room.open_still c.room.booted c.room.records c.room.bytes)
    (rw (c.lives, c.kept, ne_eqb (sum v.places.transport.0) 0 (λ e. let l = c.low in omega (arith, e, l)), eq-eqb (sum v.places.outlet.0) 0 c.empty) refl)
  where
    both : (a b : Option Deny) → a ≡ None → b ≡ None → option_or a b ≡ None
    both a b e f = rw (e, f) refl
