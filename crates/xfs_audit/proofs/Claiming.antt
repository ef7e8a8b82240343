-- What one more unit, and one more token, says of a claim.
use Rattle.std.proofs.Common.{◌≡◌, ◌≢◌, ℕ, ◌+◌, ◌<◌, ◌≤◌, ◌^◌, List, length, get_or, set, Some, None, slice_index, refl, sym, ◌∙◌, arith, inl, inr, get_or-set_same, get_or-set_other}
use Rattle.std.specs.Prelude.{slice_get}
use Rattle.std.proofs.lemmas.Bool.{cases_eq}
use Rattle.xfs_base.specs.Money.{value}
use Rattle.xfs_base.specs.declared.counts.Counts.{Counts}
use Rattle.xfs_base.specs.declared.money.NoteKind.{NoteKind}
use Rattle.xfs_token.specs.Token.{Parts, Spells}
use Rattle.xfs_token.proofs.Whole.{one_token}
use Rattle.xfs_audit.specs.declared.claim.Claim.{Claim}
use Rattle.xfs_audit.specs.Claims.{IsPaidAt, allowed, HasToken, IsTokenOf, IsIssueAt, IsClaimOf, HasClaim}
use Rattle.std.specs.declared.option.Option.{Option}
use Rattle.std.proofs.lemmas.Option.{same_Some}
use Rattle.xfs_token.specs.Amounts.{amounts_of}
use Rattle.xfs_journal.specs.declared.record.Rec.{Rec}
use Rattle.xfs_journal.specs.declared.record.Rec.TheVariants.{Issue, Clear, Expire, Boot, Start, Bind, Order, Done, Load}
use Rattle.xfs_journal.specs.Journal.{record_at, token_of, nonce_text}
use Rattle.xfs_guard.specs.Within.{HasNonce}

pub under-more : (shown : List ℕ) (i x : ℕ) → i < length shown → ((u : ℕ) → slice_index shown u < 2 ^ 64) → x < 2 ^ 64 → (u : ℕ) → slice_index (set shown i x) u < 2 ^ 64
under-more shown i x lt under small u = elim (cases_eq u i) [
  | inl at ↦ rw (at, get_or-set_same) small
  | inr away ↦ let ne : u ≢ i = away in rw get_or-set_other (under u)
]

pub paid-more : (units : List NoteKind) (moved : Counts) (old now : Claim) (i v : ℕ) (kind : NoteKind) → i < length now.shown → now.amounts ≡ old.amounts
    → ((u : ℕ) (k : NoteKind) → u < i → slice_get units u ≡ Some k → IsPaidAt units moved u k old now) → ((u : ℕ) → i ≤ u → slice_index now.shown u ≡ slice_index old.shown u)
    → slice_get units i ≡ Some kind → v ≡ value units moved kind.currency → slice_index now.shown i + v ≤ allowed now.amounts kind.currency
    → (u : ℕ) (k : NoteKind) → u < i + 1 → slice_get units u ≡ Some k → IsPaidAt units moved u k old (record { amounts = now.amounts; shown = set now.shown i (get_or now.shown i 0 + v) })
paid-more units moved old now i v kind lt amounts paid left there worth enough u k le got = elim (cases_eq u i) [
  | inl at ↦ here at
  | inr away ↦ let ne : u ≢ i = away in let p = paid u k (omega arith) got in record { sum = rw get_or-set_other p.sum; enough = rw get_or-set_other p.enough }
]
  where
    here : u ≡ i → IsPaidAt units moved u k old (record { amounts = now.amounts; shown = set now.shown i (get_or now.shown i 0 + v) })
    here at =
        let there' : slice_get units u ≡ Some kind = rw at there in
        let same : k ≡ kind = cc in record {
          sum = rw (at, get_or-set_same, same) (let l = left i (omega arith) in omega (arith, l, worth));
          enough = rw (at, get_or-set_same, same, ← amounts) enough;
        }

-- a text spells one token
pub one-token : (k nonce text : List ℕ) (t s : Parts) → Spells t text → HasToken k nonce text s → HasToken k nonce text t
one-token k nonce text t s spelled has = rw (one_token t s text spelled has.genuine.spelled) has

nonce-of-issue : (o : Option Rec) (text : List ℕ) → ((n w : ℕ) → o ≡ Some (Issue n w) → ⊥) → HasNonce o text → ⊥
nonce-of-issue None text none has = has
nonce-of-issue (Some (Issue n w)) text none has = none n w refl
nonce-of-issue (Some Clear) text none has = has
nonce-of-issue (Some Expire) text none has = has
nonce-of-issue (Some (Boot p)) text none has = has
nonce-of-issue (Some (Start issues p)) text none has = has
nonce-of-issue (Some (Bind t)) text none has = has
nonce-of-issue (Some (Order k c)) text none has = has
nonce-of-issue (Some (Done m d)) text none has = has
nonce-of-issue (Some (Load u c)) text none has = has

-- what is no Issue has no token
pub no-issue : (k : List ℕ) (J : List Rec) (p : ℕ) → IsIssueAt J p None → IsClaimOf k J p None
no-issue k J p none amounts has = nonce-of-issue (record_at J p) has.token.nonce none has.carries.nonce

pub no-token : (k : List ℕ) (J : List Rec) (p : ℕ) → token_of J p ≡ None → IsClaimOf k J p None
no-token k J p none amounts has = let bound = has.bound in cc

-- the nonce of an Issue
same-nonce : (J : List Rec) (p n w : ℕ) (text : List ℕ) → record_at J p ≡ Some (Issue n w) → HasNonce (record_at J p) text → text ≡ nonce_text n w
same-nonce J p n w text issue has = rw issue at has

pub wrong-token : (k : List ℕ) (J : List Rec) (p n w : ℕ) (text : List ℕ) → record_at J p ≡ Some (Issue n w) → token_of J p ≡ Some text → IsTokenOf k (nonce_text n w) text None → IsClaimOf k J p None
wrong-token k J p n w text issue bound none amounts has =
    let same : has.bytes ≡ text = same_Some has.bytes text (sym has.bound ∙ bound) in
    none has.token (record { genuine = rw same at has.carries.genuine; same = same-nonce J p n w has.token.nonce issue has.carries.nonce })

pub claimed : (k : List ℕ) (J : List Rec) (p n w : ℕ) (text : List ℕ) (t : Parts) (amounts : Option (List (List ℕ × ℕ))) → record_at J p ≡ Some (Issue n w) → token_of J p ≡ Some text → HasToken k (nonce_text n w) text t → amounts ≡ amounts_of t → HasClaim k J p amounts
claimed k J p n w text t amounts issue bound has is = record {
  bytes = text;
  bound = bound;
  token = t;
  carries = record { genuine = has.genuine; nonce = rw issue has.same };
  amounts_are = is;
}
