-- What was put out stays within the tokens.
use Rattle.std.proofs.Common.{◌≡◌, inl, inr, ℕ, zero, suc, ◌+◌, ◌≤◌, List, [], ◌∷◌, ◌++◌, length, None, Some, refl, ◌∙◌, ap, arith}
use Rattle.std.specs.Prelude.{if◌then◌else◌}
use Rattle.std.specs.List.{AllByRecursion}
use Rattle.std.proofs.lemmas.List.Sums.{sum_by_push, sum_by-cons}
use Rattle.std.proofs.lemmas.Bool.{cases_lt, cases_eq}
use Rattle.std.proofs.lemmas.Option.{slice_get_past}
use Rattle.xfs_base.specs.declared.counts.Counts.{Counts}
use Rattle.xfs_base.specs.declared.money.NoteKind.{NoteKind}
use Rattle.xfs_base.specs.declared.counts.Kind.TheVariants.{Stack, Present, Reject, Retract}
use Rattle.xfs_base.specs.Money.{value}
use Rattle.xfs_mech.specs.declared.motion.Motion.{Motion}
use Rattle.xfs_mech.specs.declared.motion.Motion.TheVariants.{Moved, Taken, Loaded}
use Rattle.xfs_journal.specs.declared.record.Rec.{Rec}
use Rattle.xfs_journal.specs.declared.record.Rec.TheVariants.{Order}
use Rattle.xfs_journal.specs.Journal.{record_at, live_at, is_place, token_of}
use Rattle.xfs_mech.specs.Motions.{NumberIs}
use Rattle.xfs_guard.specs.Within.{shown_by, shown, HasNonce, IsOfNonce, IsCovered, IsPaidFor, IsWithin, Within}
use Rattle.xfs_journal.proofs.JournalLaws.{record_at-push, record_at-within, live_at-push, token_of-kept, eqb-same, eqb-no}
use Rattle.xfs_mech.proofs.MotionLaws.{all-append, all-map}
use Rattle.xfs_token.specs.Token.{Parts}
use Rattle.xfs_token.specs.Amounts.{amount}
use Rattle.std.specs.Prelude.{◌≢◌}

-- one more record changes nothing of what was put out
shown_by-record : (u : List NoteKind) (records : List Rec) (r : Rec) (p : ℕ) (c : List ℕ) (m : Motion) → NumberIs (λ n. n ≤ length records) m → shown_by u (records ++ r ∷ []) p c m ≡ shown_by u records p c m
shown_by-record u records r p c (Moved n Present m d) le = ap (λ s. if is_place p s then value u m c else 0) (live_at-push records r n (omega arith))
shown_by-record u records r p c (Moved n Stack m d) le = refl
shown_by-record u records r p c (Moved n Reject m d) le = refl
shown_by-record u records r p c (Moved n Retract m d) le = refl
shown_by-record u records r p c (Taken n) le = refl
shown_by-record u records r p c (Loaded n m) le = refl

pub shown-record : (u : List NoteKind) (records : List Rec) (r : Rec) (p : ℕ) (c : List ℕ) (motions : List Motion) → AllByRecursion (NumberIs (λ n. n ≤ length records)) motions → shown u (records ++ r ∷ []) motions p c ≡ shown u records motions p c
shown-record u records r p c [] a = refl
shown-record u records r p c (m ∷ motions) a = rw (sum_by-cons, sum_by-cons, shown_by-record u records r p c m a.0, shown-record u records r p c motions a.1) refl

pub shown-motion : (u : List NoteKind) (records : List Rec) (p : ℕ) (c : List ℕ) (motions : List Motion) (m : Motion) → shown u records (motions ++ m ∷ []) p c ≡ shown u records motions p c + shown_by u records p c m
shown-motion u records p c motions m = sum_by_push (shown_by u records p c) motions m

nonce-within : (records : List Rec) (p : ℕ) (t : List ℕ) → HasNonce (record_at records p) t → p ≤ length records
nonce-within records zero t h = omega arith
nonce-within records (suc i) t h = elim (cases_lt i (length records)) [
  | inl below ↦ omega arith
  | inr past ↦ absurd (none (rw (slice_get_past records i past) at h))
]
  where
    none : HasNonce None t → ⊥
    none x = x

nonce-record : (records : List Rec) (r : Rec) (p : ℕ) (t : List ℕ) → HasNonce (record_at records p) t → HasNonce (record_at (records ++ r ∷ []) p) t
nonce-record records r p t h = rw (record_at-push records r p (nonce-within records p t h)) h

pub carries-record : (key : List ℕ) (records : List Rec) (r : Rec) (p : ℕ) (b : List ℕ) (t : Parts) → IsOfNonce key records p b t → IsOfNonce key (records ++ r ∷ []) p b t
carries-record key records r p b t h = record { genuine = h.genuine; nonce = nonce-record records r p t.nonce h.nonce }

covered-record : (key : List ℕ) (u : List NoteKind) (records : List Rec) (r : Rec) (motions : List Motion) (p : ℕ) (b : List ℕ) → AllByRecursion (NumberIs (λ n. n ≤ length records)) motions
    → IsCovered key u records motions p b → IsCovered key u (records ++ r ∷ []) motions p b
covered-record key u records r motions p b a h = record {
  token = h.token;
  carries = carries-record key records r p b h.token h.carries;
  enough = λ c. let e = shown-record u records r p c motions a in omega (arith, h.enough c, e);
}

paid-record : (key : List ℕ) (u : List NoteKind) (records : List Rec) (r : Rec) (motions : List Motion) (n : ℕ) → AllByRecursion (NumberIs (λ n. n ≤ length records)) motions
    → IsPaidFor key u records motions n → IsPaidFor key u (records ++ r ∷ []) motions n
paid-record key u records r motions n a h =
    let le = (record_at-within records n (Order Present h.counts) h.ordered).1 in record {
      counts = h.counts;
      ordered = record_at-push records r n le ∙ h.ordered;
      issue = h.issue;
      lives = live_at-push records r n (omega arith) ∙ h.lives;
      bytes = h.bytes;
      bound = token_of-kept records r h.issue h.bytes h.bound (nonce-within records h.issue h.covered.token.nonce h.covered.carries.nonce);
      covered = covered-record key u records r motions h.issue h.bytes a h.covered;
    }

within_one-record : (key : List ℕ) (u : List NoteKind) (records : List Rec) (r : Rec) (motions : List Motion) → AllByRecursion (NumberIs (λ n. n ≤ length records)) motions
    → (m : Motion) → IsWithin key u records motions m → IsWithin key u (records ++ r ∷ []) motions m
within_one-record key u records r motions a (Moved n Present m d) h = paid-record key u records r motions n a h
within_one-record key u records r motions a (Moved n Stack m d) h = tt
within_one-record key u records r motions a (Moved n Reject m d) h = tt
within_one-record key u records r motions a (Moved n Retract m d) h = tt
within_one-record key u records r motions a (Taken c) h = tt
within_one-record key u records r motions a (Loaded i c) h = tt

-- (a) and (b): one more record, a mark or not, keeps Within
pub Within-record : (key : List ℕ) (u : List NoteKind) (records : List Rec) (r : Rec) (motions : List Motion) → AllByRecursion (NumberIs (λ n. n ≤ length records)) motions
    → Within key u records motions → Within key u (records ++ r ∷ []) motions
Within-record key u records r motions a w = all-map (IsWithin key u records motions) (IsWithin key u (records ++ r ∷ []) motions) motions (within_one-record key u records r motions a) w

covered-quiet : (key : List ℕ) (u : List NoteKind) (records : List Rec) (motions : List Motion) (m : Motion) (p : ℕ) (b : List ℕ) → ((p : ℕ) (c : List ℕ) → shown_by u records p c m ≡ 0)
    → IsCovered key u records motions p b → IsCovered key u records (motions ++ m ∷ []) p b
covered-quiet key u records motions m p b q h = record {
  token = h.token;
  carries = h.carries;
  enough = λ c. let e = shown-motion u records p c motions m in let z = q p c in omega (arith, h.enough c, e, z);
}

-- what a motion was paid for, where each covered segment stays covered
within_one-motion : (key : List ℕ) (u : List NoteKind) (records : List Rec) (motions : List Motion) (m : Motion)
    → ((p : ℕ) (b : List ℕ) → token_of records p ≡ Some b → IsCovered key u records motions p b → IsCovered key u records (motions ++ m ∷ []) p b)
    → (x : Motion) → IsWithin key u records motions x → IsWithin key u records (motions ++ m ∷ []) x
within_one-motion key u records motions m keeps (Moved n Present moved d) h = record {
  counts = h.counts;
  ordered = h.ordered;
  issue = h.issue;
  lives = h.lives;
  bytes = h.bytes;
  bound = h.bound;
  covered = keeps h.issue h.bytes h.bound h.covered;
}
within_one-motion key u records motions m keeps (Moved n Stack moved d) h = tt
within_one-motion key u records motions m keeps (Moved n Reject moved d) h = tt
within_one-motion key u records motions m keeps (Moved n Retract moved d) h = tt
within_one-motion key u records motions m keeps (Taken c) h = tt
within_one-motion key u records motions m keeps (Loaded i c) h = tt

Within-motion : (key : List ℕ) (u : List NoteKind) (records : List Rec) (motions : List Motion) (m : Motion)
    → ((p : ℕ) (b : List ℕ) → token_of records p ≡ Some b → IsCovered key u records motions p b → IsCovered key u records (motions ++ m ∷ []) p b)
    → IsWithin key u records (motions ++ m ∷ []) m → Within key u records motions → Within key u records (motions ++ m ∷ [])
Within-motion key u records motions m keeps new w =
    all-append (IsWithin key u records (motions ++ m ∷ [])) motions (m ∷ []) (all-map (IsWithin key u records motions) (IsWithin key u records (motions ++ m ∷ [])) motions (within_one-motion key u records motions m keeps) w) (new, tt)

-- any motion but a present keeps Within
pub Within-quiet : (key : List ℕ) (u : List NoteKind) (records : List Rec) (motions : List Motion) (m : Motion) → ((p : ℕ) (c : List ℕ) → shown_by u records p c m ≡ 0)
    → IsWithin key u records (motions ++ m ∷ []) m → Within key u records motions → Within key u records (motions ++ m ∷ [])
Within-quiet key u records motions m q new w = Within-motion key u records motions m (λ p b s h. covered-quiet key u records motions m p b q h) new w

-- the worth of a present counts in its own segment alone
pub shown_by-other : (u : List NoteKind) (records : List Rec) (p n q : ℕ) (c : List ℕ) (m d : Counts) → live_at records n ≡ Some p → p ≢ q → shown_by u records q c (Moved n Present m d) ≡ 0
shown_by-other u records p n q c m d e ne = rw (e, eqb-no p q ne) refl

pub shown_by-own : (u : List NoteKind) (records : List Rec) (p n : ℕ) (c : List ℕ) (m d : Counts) → live_at records n ≡ Some p → shown_by u records p c (Moved n Present m d) ≡ value u m c
shown_by-own u records p n c m d e = rw (e, eqb-same p) refl

-- (c) a present that the budget covers keeps Within
pub Within-present : (key : List ℕ) (u : List NoteKind) (records : List Rec) (motions : List Motion) (n p : ℕ) (b : List ℕ) (t : Parts) (c m d : Counts)
    → record_at records n ≡ Some (Order Present c) → live_at records n ≡ Some p → token_of records p ≡ Some b
    → IsOfNonce key records p b t → ((cur : List ℕ) → shown u records motions p cur + value u m cur ≤ amount t cur)
    → Within key u records motions → Within key u records (motions ++ Moved n Present m d ∷ [])
Within-present key u records motions n p b t c m d ordered lives bound carries enough w =
    Within-motion key u records motions (Moved n Present m d) keeps (record { counts = c; ordered = ordered; issue = p; lives = lives; bytes = b; bound = bound; covered = own }) w
  where
    own : IsCovered key u records (motions ++ Moved n Present m d ∷ []) p b
    own = record {
      token = t;
      carries = carries;
      enough = λ cur. let e = shown-motion u records p cur motions (Moved n Present m d) in let z = shown_by-own u records p n cur m d lives in omega (arith, enough cur, e, z);
    }

    other : (q : ℕ) (x : List ℕ) → p ≢ q → IsCovered key u records motions q x → IsCovered key u records (motions ++ Moved n Present m d ∷ []) q x
    other q x ne h = record {
      token = h.token;
      carries = h.carries;
      enough = λ cur. let e = shown-motion u records q cur motions (Moved n Present m d) in let z = shown_by-other u records p n q cur m d lives ne in omega (arith, h.enough cur, e, z);
    }

    keeps : (q : ℕ) (x : List ℕ) → token_of records q ≡ Some x → IsCovered key u records motions q x → IsCovered key u records (motions ++ Moved n Present m d ∷ []) q x
    keeps q x s h = elim (cases_eq p q) [
      | inl same ↦ let is : b ≡ x = cc in rw (← same, ← is) own
      | inr ne ↦ other q x ne h
    ]
