-- What a token that passes every check carries.
use Rattle.std.proofs.Common.{◌≡◌, ◌≢◌, ◌≤◌, ℕ, ◌+◌, ◌-◌, ◌*◌, Bool, true, false, List, [], ◌∷◌, length, take, None, Some, refl, sym, subst, ◌∙◌, ap, arith}
use Rattle.std.specs.Prelude.{sum, not, is_none, slice_index, unwrap_or, if◌then◌else◌, ◌==◌}
use Rattle.std.specs.declared.option.Option.{Option}
use Rattle.std.specs.Borrow.{Bor}
use Rattle.std.specs.Option.{option_and_then, option_copied}
use Rattle.std.specs.Prelude.{is_some}
use Rattle.std.specs.Str.{bytes_eq}
use Rattle.std.proofs.lemmas.Slice.Eq.{bytes_eq-Decides}
use Rattle.xfs_base.specs.Money.{value_at, value_from, value}
use Rattle.xfs_base.specs.declared.money.NoteKind.{NoteKind}
use Rattle.xfs_hmac.specs.Hmac.{hmac}
use Rattle.xfs_token.specs.Token.{Parts, Spells}
use Rattle.xfs_token.specs.Amounts.{amounts_of}
use Rattle.xfs_token.proofs.Whole.{one_token}
use Rattle.xfs_token.proofs.Written.{length-form}
use Rattle.xfs_journal.specs.declared.record.Rec.{Rec}
use Rattle.xfs_journal.specs.declared.record.Rec.TheVariants.{Issue, Clear, Expire, Boot, Start, Bind, Order, Done, Load}
use Rattle.xfs_journal.specs.Journal.{record_at, live_of, token_of, last_mark, nonce_text}
use Rattle.xfs_guard.specs.declared.nonce.Nonce.{Nonce}
use Rattle.xfs_guard.specs.declared.deny.Deny.{Deny}
use Rattle.xfs_guard.specs.declared.deny.Deny.TheVariants.{WrongNonce, WrongMac, NoAmounts, NotEmpty, OtherBound}
use Rattle.xfs_guard.specs.View.{View}
use Rattle.xfs_guard.specs.Nonce.{nonce_of, live_nonce}
use Rattle.xfs_guard.specs.Within.{IsOfNonce, HasNonce}
use Rattle.xfs_guard.specs.Refusals.{Passes, claim_refusal, claim_refusal_at, bind_refusal, bound_token, bound_number}
use Rattle.xfs_guard.specs.declared.open.Open.TheVariants.{No}
use Rattle.xfs_guard.specs.Presented.{presented_in}
use Rattle.xfs_guard.specs.Sound.{IsSound}
use Rattle.xfs_guard.proofs.OrderLaws.{live-number}
use Rattle.xfs_guard.proofs.RecordLaws.{longer, IsSound-bind}
use Rattle.std.proofs.lemmas.Bool.{eqb-true, cases_lt}
use Rattle.std.proofs.lemmas.List.Sums.{get_or-le-sum_by}
use Rattle.std.proofs.lemmas.List.{get_or_past}
use Rattle.std.proofs.Common.{inl, inr}

-- what a chain of checks that refuses nothing says
record Fine (v : View) (bytes : List ℕ) (t : Parts) : Type 0 where
  nonce : Nonce
  lives : live_nonce v.records ≡ Some nonce
  carries : t.nonce ≡ nonce.text
  mac : t.mac ≡ hmac v.key (take (length bytes - 76) bytes)
  free : bind_refusal v bytes (bound_token v.records) ≡ None

same-bytes : (a b : List ℕ) → bytes_eq a b ≡ true → a ≡ b
same-bytes a b e = (bytes_eq-Decides a b).0 e

fine : (v : View) (bytes : List ℕ) (t : Parts) → claim_refusal v bytes t ≡ None → Fine v bytes t
fine v bytes t none = go (live_nonce v.records) refl none
  where
    due : List ℕ
    due = hmac v.key (take (length bytes - 76) bytes)

    rest : (n : Nonce) → live_nonce v.records ≡ Some n → (a b c : Bool) → bytes_eq t.nonce n.text ≡ a → bytes_eq t.mac due ≡ b
        → (if not a then Some (WrongNonce (last_mark v.records)) else if not b then Some (WrongMac due) else if c then Some NoAmounts else bind_refusal v bytes (bound_token v.records)) ≡ None
        → Fine v bytes t
    rest n is false b c x y none = cc
    rest n is true false c x y none = cc
    rest n is true true true x y none = cc
    rest n is true true false x y none = record { nonce = n; lives = is; carries = same-bytes _ _ x; mac = same-bytes _ _ y; free = none }

    go : (n : Option Nonce) → live_nonce v.records ≡ n → claim_refusal_at v bytes t n ≡ None → Fine v bytes t
    go None is none = cc
    go (Some n) is none = rest n is (bytes_eq t.nonce n.text) (bytes_eq t.mac due) (is_none (amounts_of t)) refl refl none

-- an issue's nonce is that of its record
has-nonce : (r : Option Rec) (n : Nonce) → nonce_of r ≡ Some n → HasNonce r n.text
has-nonce None n e = cc
has-nonce (Some (Issue number word)) n e = let s : record { text = nonce_text number word; number = number } ≡ n = cc in sym (ap (λ (x : Nonce). x.text) s)
has-nonce (Some Clear) n e = cc
has-nonce (Some Expire) n e = cc
has-nonce (Some (Boot p)) n e = cc
has-nonce (Some (Start issues p)) n e = cc
has-nonce (Some (Bind t)) n e = cc
has-nonce (Some (Order k c)) n e = cc
has-nonce (Some (Done m d)) n e = cc
has-nonce (Some (Load u c)) n e = cc

-- a token that passes carries the live nonce
pub passes-carries : (v : View) (bytes : List ℕ) (amounts : List (List ℕ × ℕ)) (p : ℕ) (h : Passes v bytes amounts) → live_of v.records ≡ Some p → IsOfNonce v.key v.records p bytes h.token
passes-carries v bytes amounts p h lives =
    let f = fine v bytes h.token h.passed in
    let at : nonce_of (record_at v.records p) ≡ Some f.nonce = sym (ap (λ l. option_and_then (λ q. nonce_of (record_at v.records q)) l) lives) ∙ f.lives in
    record { genuine = record { spelled = h.spelled; mac = f.mac }; nonce = rw f.carries (has-nonce (record_at v.records p) f.nonce at) }

-- a token that passes finds a live nonce
pub passes-live : (v : View) (bytes : List ℕ) (amounts : List (List ℕ × ℕ)) → Passes v bytes amounts → (p : ℕ) × (live_of v.records ≡ Some p)
passes-live v bytes amounts h = let f = fine v bytes h.token h.passed in live-number v.records f.nonce f.lives

no-notes : (ks : List NoteKind) (i : ℕ) (counts c : List ℕ) → ((u : ℕ) → slice_index counts u ≡ 0) → value_from ks i counts c ≡ 0
no-notes [] i counts c z = refl
no-notes (k ∷ ks) i counts c z =
    let here : value_at k (slice_index counts i) c ≡ 0 = go (bytes_eq k.currency c) in
    let rest = no-notes ks (i + 1) counts c z in
    omega (arith, here, rest)
  where
    go : (t : Bool) → (if t then 1000 * k.value * slice_index counts i else 0) ≡ 0
    go true = rw (z i) (omega arith)
    go false = refl

-- where none is bound and a token passes, the transport is empty, and so worth nothing
empty-transport : (v : View) (bytes : List ℕ) (amounts : List (List ℕ × ℕ)) (c : List ℕ) → Passes v bytes amounts → bound_token v.records ≡ None → value v.units v.places.transport c ≡ 0
empty-transport v bytes amounts c h none =
    let f = fine v bytes h.token h.passed in
    no-notes v.units 0 v.places.transport.0 c (zeros v.places.transport.0 (empty (sum v.places.transport.0 == 0) refl (rw none at f.free)))
  where
    empty : (t : Bool) → (sum v.places.transport.0 == 0) ≡ t → (if t then None else Some (NotEmpty (sum v.places.transport.0))) ≡ None → sum v.places.transport.0 ≡ 0
    empty true is e = eqb-true _ _ is
    empty false is e = cc

    zeros : (xs : List ℕ) → sum xs ≡ 0 → (u : ℕ) → slice_index xs u ≡ 0
    zeros xs e u = elim (cases_lt u (length xs)) [
      | inl within ↦ (let le = get_or-le-sum_by (λ x. x) xs u 0 within in omega (arith, le, e))
      | inr past ↦ get_or_past xs u 0 past
    ]

-- the token of a claim may be bound, where none is
pub IsSound-claim : (v : View) (bytes : List ℕ) (amounts : List (List ℕ × ℕ)) → IsSound v → v.open_order ≡ No → Passes v bytes amounts → bound_token v.records ≡ None
    → IsSound (longer v (Bind bytes) (Some amounts) No)
IsSound-claim v bytes amounts s none h free =
    let live = passes-live v bytes amounts h in
    let unbound : token_of v.records live.0 ≡ None = sym (ap (λ l. option_and_then (token_of v.records) l) live.1) ∙ free in
    IsSound-bind v live.0 bytes h.token amounts s none live.1 unbound (passes-carries v bytes amounts live.0 h live.1) h.amounts_are
    (λ c. let z = empty-transport v bytes amounts c h free in omega (arith, z))

-- a text that spells a token has an HMAC's field at its end
pub spelled-long : (t : Parts) (bytes : List ℕ) → Spells t bytes → 76 ≤ length bytes
spelled-long t bytes s =
    let l = length-form t (length bytes) s.formed.mac.long in
    let e = ap length s.text in
    omega (arith, l, e)

-- where one is bound and a token passes, it is that one, and its amounts are kept
pub kept-claim : (v : View) (bytes : List ℕ) (amounts : List (List ℕ × ℕ)) → IsSound v → Passes v bytes amounts → bound_token v.records ≢ None → v.bound ≡ Some amounts
kept-claim v bytes amounts s h again = go live.0 live.1 (token_of v.records live.0) refl
  where
    live : (p : ℕ) × (live_of v.records ≡ Some p)
    live = passes-live v bytes amounts h

    is-same : (t : Bool) (deny : Deny) → (if t then None else Some deny) ≡ None → t ≡ true
    is-same true deny e = refl
    is-same false deny e = cc

    go : (p : ℕ) → live_of v.records ≡ Some p → (t : Option (List ℕ)) → token_of v.records p ≡ t → v.bound ≡ Some amounts
    go p lives None e = absurd (again (ap (λ l. option_and_then (token_of v.records) l) lives ∙ e))
    go p lives (Some other) e =
        let f = fine v bytes h.token h.passed in
        let bound : bound_token v.records ≡ Some other = ap (λ l. option_and_then (token_of v.records) l) lives ∙ e in
        let is : other ≡ bytes = same-bytes other bytes (is-same (bytes_eq other bytes) (OtherBound (unwrap_or (bound_number v.records) 0)) (rw bound at f.free)) in
        let funded = s.budget.funded p other lives e in
        let one = one_token funded.token h.token bytes (subst (Spells funded.token) is funded.carries.genuine.spelled) h.spelled in
        funded.kept ∙ (sym funded.amounts_are ∙ (ap amounts_of one ∙ h.amounts_are))

-- nothing was presented for a live nonce without a token
pub fresh-claim : (v : View) (bytes : List ℕ) (amounts : List (List ℕ × ℕ)) → IsSound v → Passes v bytes amounts → bound_token v.records ≡ None → (c : List ℕ) → presented_in v.units v.records c ≡ 0
fresh-claim v bytes amounts s h free c =
    let live = passes-live v bytes amounts h in
    let unbound : token_of v.records live.0 ≡ None = sym (ap (λ l. option_and_then (token_of v.records) l) live.1) ∙ free in
    (s.budget.unbound live.0 live.1 unbound).1 c

-- what a reference points to, where there is none
pub copied-none : {T : Type 0} (o : Option (Bor T)) (x : Option T) → option_copied o ≡ x → is_some o ≡ false → x ≡ None
copied-none None x e none = sym e
copied-none (Some b) x e none = cc

-- what a reference points to, where there is one
pub copied-some : {T : Type 0} (o : Option (Bor T)) (x : Option T) → option_copied o ≡ x → is_some o ≡ true → x ≢ None
copied-some None x e some none = cc
copied-some (Some b) x e some none = let f = e ∙ none in cc
