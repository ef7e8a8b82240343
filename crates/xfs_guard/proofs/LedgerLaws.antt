-- What a ledger keeps beside its records is what is read of them.
use Rattle.std.proofs.Common.{◌≡◌, ◌≢◌, ◌⊎◌, Bool, true, false, true≢false, drop, take, get_or, ℕ, zero, suc, ◌+◌, ◌-◌, ◌<◌, ◌≤◌, List, [], ◌∷◌, ◌++◌, length, None, Some, refl, sym, ◌∙◌, ap, arith, length-append, length-drop}
use Rattle.std.specs.Prelude.{slice_get, slice_index}
use Rattle.std.specs.declared.option.Option.{Option}
use Rattle.std.specs.Option.{option_map}
use Rattle.xfs_base.specs.declared.money.NoteKind.{NoteKind}
use Rattle.xfs_journal.specs.declared.record.Rec.{Rec}
use Rattle.xfs_journal.specs.declared.record.Rec.TheVariants.{Issue, Clear, Expire, Boot, Start, Bind, Order, Done, Load}
use Rattle.xfs_journal.proofs.BaseLaws.{issues-split}
use Rattle.xfs_journal.proofs.StartLaws.{boot_of-places}
use Rattle.xfs_journal.specs.Journal.{boot_of, boot_places, issues_in, record_at, live_of, last_mark, next_issue, nonce_text, next_number, live_after, mark_after, Finding, found_after}
use Rattle.xfs_journal.proofs.JournalLaws.{live_of-push, binding_of-push, last_mark-push, next_issue-push, record_at-push, record_at-pushed, record_at-within, eqb-same}
use Rattle.std.proofs.lemmas.Bool.{cases_lt}
use Rattle.std.proofs.lemmas.List.{take_all, take_more, length-take-le}
use Rattle.std.proofs.lemmas.Option.{slice_get_past, slice_get_read, slice_get_within, get_or_from_slice_get}
use Rattle.std.proofs.Common.{inl, inr}
use Rattle.xfs_base.specs.declared.counts.Counts.{Counts}
use Rattle.xfs_base.specs.declared.counts.Places.{Places}
use Rattle.xfs_base.specs.declared.counts.Kind.{Kind}
use Rattle.xfs_base.specs.declared.counts.Kind.TheVariants.{Stack, Present, Reject, Retract}
use Rattle.xfs_base.specs.Money.{value}
use Rattle.xfs_guard.specs.Presented.{presented_in, done_worth}
use Rattle.xfs_guard.proofs.PresentedLaws.{presented_in-push}
use Rattle.xfs_guard.specs.declared.bound.Live.{Live}
use Rattle.xfs_guard.specs.declared.bound.Bound.{Bound}
use Rattle.xfs_guard.specs.declared.nonce.Nonce.{Nonce}
use Rattle.xfs_guard.specs.Nonce.{nonce_of, live_nonce, live_in}
use Rattle.xfs_guard.specs.Refusals.{bound_token, bound_number}
use Rattle.xfs_guard.specs.Ledger.{IsLive, IsBound, IsBehind, IsReadFrom, IsDoubted, KeepsLedger, AreSumsPresented, amounts_kept}
use Rattle.xfs_guard.specs.Pays.{FitsSums, GrowsSums}
use Rattle.xfs_guard.specs.LedgerView.{LedgerView, IsWriteFault}
use Rattle.xfs_guard.specs.declared.deny.Deny.{Deny}
use Rattle.xfs_guard.specs.declared.deny.Deny.TheVariants.{Disk, Memory}
use Rattle.xfs_journal.specs.JournalView.{IsPossible}
use Rattle.std.proofs.Math.Seq.{take-append_seam, take-length}

abbrev pub nonce_kept : Option Live → Option Nonce
nonce_kept l = option_map (λ (x : Live). x.nonce) l

pub live_nonce-kept : (records : List Rec) (l : Option Live) → IsLive records l → live_nonce records ≡ nonce_kept l
live_nonce-kept records None h = rw h refl
live_nonce-kept records (Some l) h = rw (h.0, h.1) refl

-- the nonce that lives while the boot record isn't missing
pub nonce-open : (m : Bool) (records : List Rec) (n : Nonce) → m ≡ false → live_in m records ≡ Some n → live_nonce records ≡ Some n
nonce-open m records n booted is = rw booted at is

pub bound_token-none : (u : List NoteKind) (records : List Rec) (l : Option Live) → IsLive records l → IsBound u records l None → bound_token records ≡ None
bound_token-none u records None h b = rw h refl
bound_token-none u records (Some l) h b = rw (h.0, b) refl

pub bound_number-none : (u : List NoteKind) (records : List Rec) (l : Option Live) → IsLive records l → IsBound u records l None → bound_number records ≡ None
bound_number-none u records None h b = rw h refl
bound_number-none u records (Some l) h b = rw (h.0, b) refl

pub bound_token-some : (u : List NoteKind) (records : List Rec) (l : Option Live) (b : Bound) → IsLive records l → IsBound u records l (Some b)
    → (t : List ℕ) × (bound_token records ≡ Some t) × (record_at records b.number ≡ Some (Bind t)) × (bound_number records ≡ Some b.number)
bound_token-some u records None b h k = absurd k
bound_token-some u records (Some l) b h k = (k.token, rw (h.0, k.found) refl, k.written, rw (h.0, k.found) refl)

-- the records that memory has stand behind the base
pub kept-at : (records : List Rec) (base i n : ℕ) → n ≡ base + i → slice_get (drop base records) i ≡ slice_get records n
kept-at records zero i n e = let same : i ≡ n = omega (arith, e) in ap (slice_get records) same
kept-at [] (suc base) i n e = refl
kept-at (x ∷ xs) (suc base) i zero e = absurd (omega (arith, e))
kept-at (x ∷ xs) (suc base) i (suc n) e = kept-at xs base i n (omega (arith, e))

-- a record that was read there
pub found-at : (records kept : List Rec) (base b i n : ℕ) (r : Rec) → kept ≡ drop base records → b ≡ base → base ≤ n → n ≤ length records → i ≡ n - b → i ≢ length kept → r ≡ get_or kept i r → slice_get records n ≡ Some r
found-at records kept base b i n r is same le within at other read =
    let long = ap length is ∙ length-drop base records in
    let lt : i < length kept = omega (arith, long, same, le, within, at, other) in
    sym (kept-at records base i n (omega (arith, same, le, at))) ∙ (ap (λ l. slice_get l i) (sym is) ∙ slice_get_read kept (length kept) i r refl lt read)

-- the nonces in front of the base and those behind it are all of them
pub issues-of : (records : List Rec) (base a b : ℕ) (kept : List Rec) → a ≡ issues_in (take base records) → kept ≡ drop base records → b ≡ issues_in kept → a + b ≡ issues_in records
issues-of records base a b kept front is behind = rw (front, behind, is) (issues-split records base)

-- an issue is written
pub IsRead-issue : {base : ℕ} (records : List Rec) (u : List NoteKind) (i m : ℕ) (l : Option Live) (b : Option Bound) (n w : ℕ) (nonce : Nonce)
    → IsReadFrom records base u i m l b → n ≡ next_issue records → nonce.text ≡ nonce_text n w → nonce.number ≡ n
    → IsReadFrom (records ++ Issue n w ∷ []) base u n (length records + 1) (Some (record { number = length records + 1; nonce = nonce })) None
IsRead-issue records u i m l b n w nonce h is text number = record {
  issued = rw (next_issue-push records (Issue n w)) (ap (λ k. k + 1) is);
  few = let e = length-append records (Issue n w ∷ []) in let f = h.few in let g = h.issued in omega (arith, e, f, g, is);
  within = let e = length-append records (Issue n w ∷ []) in let f = h.within in omega (arith, e, f);
  marked = sym (last_mark-push records (Issue n w));
  lives = (live_of-push records (Issue n w), rw (record_at-pushed records (Issue n w)) (ap Some (same nonce text number)));
  binds = binding_of-push records (Issue n w) (length records + 1) ∙ rw (eqb-same (length records + 1)) refl;
  behind = tt;
}
  where
    same : (x : Nonce) → x.text ≡ nonce_text n w → x.number ≡ n → record { text = nonce_text n w; number = n } ≡ x
    same x t k = rw (← t, ← k) refl

-- a mark is written after which no issue lives
pub IsRead-mark : {base : ℕ} (records : List Rec) (u : List NoteKind) (i : ℕ) (r : Rec) → i + 1 ≡ next_issue records → i ≤ length records → base ≤ length records
    → ((k : ℕ) → next_number k r ≡ k) → ((k : ℕ) (x : Option ℕ) → live_after k x r ≡ None) → ((k x : ℕ) → mark_after k x r ≡ k + 1)
    → IsReadFrom (records ++ r ∷ []) base u i (length records + 1) None None
IsRead-mark records u i r issued few based same dies marks = record {
  issued = rw (next_issue-push records r, same (next_issue records)) issued;
  few = let e = length-append records (r ∷ []) in omega (arith, e, few);
  within = let e = length-append records (r ∷ []) in omega (arith, e, based);
  marked = sym (last_mark-push records r ∙ marks (length records) (last_mark records));
  lives = live_of-push records r ∙ dies (length records) (live_of records);
  binds = tt;
  behind = tt;
}

nonce-number : (records : List Rec) (p : ℕ) (n : Nonce) → nonce_of (record_at records p) ≡ Some n → p ≤ length records
nonce-number records zero n e = omega arith
nonce-number records (suc i) n e = elim (cases_lt i (length records)) [ inl below ↦ omega arith | inr past ↦ absurd (none (rw (slice_get_past records i past) at e)) ]
  where
    none : nonce_of None ≡ Some n → ⊥
    none x = cc

abbrev pub SameBind : Option Bound → Option Bound → Type 0
SameBind None None = Unit {0}
SameBind None (Some c) = ⊥
SameBind (Some b) None = ⊥
SameBind (Some b) (Some c) = c.number ≡ b.number

abbrev pub SumsOf : List NoteKind → List Rec → Option Bound → Type 0
SumsOf u records None = Unit {0}
SumsOf u records (Some c) = AreSumsPresented u records c.amounts c.presented

-- a record that is no mark leaves the live issue
lives-plain : (records : List Rec) (r : Rec) (l : Option Live) → IsLive records l → ((k : ℕ) (x : Option ℕ) → live_after k x r ≡ x) → IsLive (records ++ r ∷ []) l
lives-plain records r None h keeps = live_of-push records r ∙ (keeps (length records) (live_of records) ∙ h)
lives-plain records r (Some l) h keeps = (
  live_of-push records r ∙ (keeps (length records) (live_of records) ∙ h.0),
  rw (record_at-push records r l.number (nonce-number records l.number l.nonce h.1)) h.1,
)

-- a record that is neither a mark nor a bind leaves the bind, where the sums are those of the longer list
binds-plain : (u : List NoteKind) (records : List Rec) (r : Rec) (l : Option Live) (b c : Option Bound) → IsLive records l → IsBound u records l b → SameBind b c
    → ((p : ℕ) (f : Finding) → found_after p f r ≡ f.bind)
    → SumsOf u (records ++ r ∷ []) c → IsBound u (records ++ r ∷ []) l c
binds-plain u records r None None None h k s bind sums = tt
binds-plain u records r None (Some b) c h k s bind sums = absurd k
binds-plain u records r None None (Some c) h k s bind sums = absurd s
binds-plain u records r (Some l) None None h k s bind sums =
    binding_of-push records r l.number ∙ (bind l.number _ ∙ k)
binds-plain u records r (Some l) None (Some c) h k s bind sums = absurd s
binds-plain u records r (Some l) (Some b) None h k s bind sums = absurd s
binds-plain u records r (Some l) (Some b) (Some c) h k s bind sums = record {
  token = k.token;
  found = binding_of-push records r l.number ∙ (bind l.number _ ∙ (k.found ∙ rw s refl));
  written = rw s (record_at-push records r b.number (record_at-within records b.number (Bind k.token) k.written).1 ∙ k.written);
  sums = sums;
}

-- the sums of a bind that stands
pub sums-of : (u : List NoteKind) (records : List Rec) (l : Option Live) (b : Option Bound) → IsBound u records l b → SumsOf u records b
sums-of u records None None k = tt
sums-of u records None (Some b) k = absurd k
sums-of u records (Some l) None k = tt
sums-of u records (Some l) (Some b) k = k.sums

same-bind : (b : Option Bound) → SameBind b b
same-bind None = tt
same-bind (Some b) = refl

-- memory has the record of the same bind
same-behind : (base : ℕ) (b c : Option Bound) → SameBind b c → IsBehind base b → IsBehind base c
same-behind base None None s h = tt
same-behind base None (Some c) s h = absurd s
same-behind base (Some b) None s h = absurd s
same-behind base (Some b) (Some c) s h = rw s h

-- a record is written that no reading of the journal looks at
IsRead-plain : {base : ℕ} (records : List Rec) (u : List NoteKind) (i m : ℕ) (l : Option Live) (b : Option Bound) (r : Rec) → IsReadFrom records base u i m l b
    → ((k : ℕ) → next_number k r ≡ k) → ((k : ℕ) (x : Option ℕ) → live_after k x r ≡ x) → ((k x : ℕ) → mark_after k x r ≡ x)
    → ((p : ℕ) (f : Finding) → found_after p f r ≡ f.bind)
    → ((c : List ℕ) → presented_in u (records ++ r ∷ []) c ≡ presented_in u records c) → IsReadFrom (records ++ r ∷ []) base u i m l b
IsRead-plain records u i m l b r h numbers lives marks bind worth = record {
  issued = rw (next_issue-push records r, numbers (next_issue records)) h.issued;
  few = let e = length-append records (r ∷ []) in let f = h.few in omega (arith, e, f);
  within = let e = length-append records (r ∷ []) in let f = h.within in omega (arith, e, f);
  marked = h.marked ∙ sym (last_mark-push records r ∙ marks (length records) (last_mark records));
  lives = lives-plain records r l h.lives lives;
  binds = binds-plain u records r l b b h.lives h.binds (same-bind b) bind (more b (sums-of u records l b h.binds));
  behind = h.behind;
}
  where
    more : (b : Option Bound) → SumsOf u records b → SumsOf u (records ++ r ∷ []) b
    more None s = tt
    more (Some b) s = λ j a e. s j a e ∙ sym (worth a.0)

-- an order is written
pub IsRead-order : {base : ℕ} (records : List Rec) (u : List NoteKind) (i m : ℕ) (l : Option Live) (b : Option Bound) (k : Kind) (c : Counts) → IsReadFrom records base u i m l b → IsReadFrom (records ++ Order k c ∷ []) base u i m l b
IsRead-order records u i m l b k c h = IsRead-plain records u i m l b (Order k c) h (λ n. refl) (λ n x. refl) (λ n x. refl) (λ p f. refl) (λ cur. presented_in-push u records (Order k c) cur)

-- a loading is written
pub IsRead-load : {base : ℕ} (records : List Rec) (u : List NoteKind) (i m : ℕ) (l : Option Live) (b : Option Bound) (unit count : ℕ) → IsReadFrom records base u i m l b → IsReadFrom (records ++ Load unit count ∷ []) base u i m l b
IsRead-load records u i m l b unit count h = IsRead-plain records u i m l b (Load unit count) h (λ n. refl) (λ n x. refl) (λ n x. refl) (λ p f. refl) (λ cur. presented_in-push u records (Load unit count) cur)

-- what an order did is written
pub IsRead-done : {base : ℕ} (records : List Rec) (u : List NoteKind) (i m : ℕ) (l : Option Live) (b c : Option Bound) (n d : Counts) → IsReadFrom records base u i m l b → SameBind b c → SumsOf u (records ++ Done n d ∷ []) c
    → IsReadFrom (records ++ Done n d ∷ []) base u i m l c
IsRead-done {base = base} records u i m l b c n d h same sums = record {
  issued = rw (next_issue-push records (Done n d)) h.issued;
  few = let e = length-append records (Done n d ∷ []) in let f = h.few in omega (arith, e, f);
  within = let e = length-append records (Done n d ∷ []) in let f = h.within in omega (arith, e, f);
  marked = h.marked ∙ sym (last_mark-push records (Done n d));
  lives = lives-plain records (Done n d) l h.lives (λ n x. refl);
  binds = binds-plain u records (Done n d) l b c h.lives h.binds same (λ p f. refl) sums;
  behind = same-behind base b c same h.behind;
}

-- a token is bound
pub IsRead-bind : {base : ℕ} (records : List Rec) (u : List NoteKind) (i m : ℕ) (l : Option Live) (b : Option Bound) (t : List ℕ) (c : Bound) → IsReadFrom records base u i m l b
    → (p : ℕ) × (live_of records ≡ Some p) → bound_token records ≡ None → ((cur : List ℕ) → presented_in u records cur ≡ 0) → ((j : ℕ) → slice_index c.presented j ≡ 0) → c.number ≡ length records + 1
    → IsReadFrom (records ++ Bind t ∷ []) base u i m l (Some c)
IsRead-bind records u i m l b t c h live free fresh zeros number = record {
  issued = rw (next_issue-push records (Bind t)) h.issued;
  few = let e = length-append records (Bind t ∷ []) in let f = h.few in omega (arith, e, f);
  within = let e = length-append records (Bind t ∷ []) in let f = h.within in omega (arith, e, f);
  marked = h.marked ∙ sym (last_mark-push records (Bind t));
  lives = lives-plain records (Bind t) l h.lives (λ n x. refl);
  binds = bind l b h.lives h.binds;
  behind = let f = h.within in rw number (omega (arith, f));
}
  where
    bind : (l : Option Live) (b : Option Bound) → IsLive records l → IsBound u records l b → IsBound u (records ++ Bind t ∷ []) l (Some c)
    bind None b h k = let none : Some live.0 ≡ None = sym live.1 ∙ h in cc
    bind (Some l) (Some b) h k = let none : Some k.token ≡ None = (let e = rw (h.0, k.found) at free in e) in cc
    bind (Some l) None h k = record {
      token = t;
      found = binding_of-push records (Bind t) l.number ∙ rw (h.0, k, eqb-same l.number, number) refl;
      written = rw number (record_at-pushed records (Bind t));
      sums = λ j a e. zeros j ∙ sym (presented_in-push u records (Bind t) a.0 ∙ fresh a.0);
    }

-- what was presented of the bound currencies grows by what the order presented
pub sums-present : (u : List NoteKind) (records : List Rec) (amounts : List (List ℕ × ℕ)) (old new : List ℕ) (counts m d : Counts) → AreSumsPresented u records amounts old → record_at records (length records) ≡ Some (Order Present counts)
    → ((i : ℕ) (a : List ℕ × ℕ) → slice_get amounts i ≡ Some a → slice_index new i ≡ slice_index old i + value u m a.0) → AreSumsPresented u (records ++ Done m d ∷ []) amounts new
sums-present u records amounts old new counts m d sums last more i a e =
    let p = presented_in-push u records (Done m d) a.0 in
    let w : done_worth u a.0 (record_at records (length records)) m ≡ value u m a.0 = rw last refl in
    omega (arith, more i a e, sums i a e, p, w)

-- an order of another kind presents nothing
sums-other : (u : List NoteKind) (records : List Rec) (amounts : List (List ℕ × ℕ)) (old : List ℕ) (k : Kind) (counts m d : Counts) → AreSumsPresented u records amounts old → record_at records (length records) ≡ Some (Order k counts) → k ≢ Present
    → AreSumsPresented u (records ++ Done m d ∷ []) amounts old
sums-other u records amounts old k counts m d sums last other i a e =
    let p = presented_in-push u records (Done m d) a.0 in
    let w : done_worth u a.0 (record_at records (length records)) m ≡ 0 = rw last (quiet k other) in
    omega (arith, sums i a e, p, w)
  where
    quiet : (k : Kind) → k ≢ Present → done_worth u a.0 (Some (Order k counts)) m ≡ 0
    quiet Stack other = refl
    quiet Present other = absurd (other refl)
    quiet Reject other = refl
    quiet Retract other = refl

sums-pays : (u : List NoteKind) (records : List Rec) (b c : Option Bound) (k : Kind) (counts m d : Counts) → SumsOf u records b → record_at records (length records) ≡ Some (Order k counts) → GrowsSums u k m b c → SumsOf u (records ++ Done m d ∷ []) c
sums-pays u records None None k counts m d sums last p = tt
sums-pays u records None (Some c) k counts m d sums last p = absurd p
sums-pays u records (Some b) None k counts m d sums last p = absurd p
sums-pays u records (Some b) (Some c) Present counts m d sums last p = rw p.amounts (sums-present u records b.amounts b.presented c.presented counts m d sums last (p.present refl))
sums-pays u records (Some b) (Some c) Stack counts m d sums last p = let other : Stack ≢ Present = λ e. cc in rw (p.amounts, p.other other) (sums-other u records b.amounts b.presented Stack counts m d sums last other)
sums-pays u records (Some b) (Some c) Reject counts m d sums last p = let other : Reject ≢ Present = λ e. cc in rw (p.amounts, p.other other) (sums-other u records b.amounts b.presented Reject counts m d sums last other)
sums-pays u records (Some b) (Some c) Retract counts m d sums last p = let other : Retract ≢ Present = λ e. cc in rw (p.amounts, p.other other) (sums-other u records b.amounts b.presented Retract counts m d sums last other)

bind-pays : (u : List NoteKind) (b c : Option Bound) (k : Kind) (m : Counts) → GrowsSums u k m b c → SameBind b c
bind-pays u None None k m p = tt
bind-pays u None (Some c) k m p = absurd p
bind-pays u (Some b) None k m p = absurd p
bind-pays u (Some b) (Some c) k m p = p.number

-- what an order did is written
pub IsRead-paid : {base : ℕ} (records : List Rec) (u : List NoteKind) (i m : ℕ) (l : Option Live) (b c : Option Bound) (k : Kind) (n d : Counts) → IsReadFrom records base u i m l b
    → (counts : Counts) × (record_at records (length records) ≡ Some (Order k counts)) → GrowsSums u k n b c → IsReadFrom (records ++ Done n d ∷ []) base u i m l c
IsRead-paid records u i m l b c k n d h last p =
    IsRead-done records u i m l b c n d h (bind-pays u b c k n p) (sums-pays u records b c k last.0 n d (sums-of u records l b h.binds) last.1 p)

-- what is paid keeps the amounts
pub amounts-pays : (u : List NoteKind) (b c : Option Bound) (k : Kind) (m : Counts) → GrowsSums u k m b c → amounts_kept c ≡ amounts_kept b
amounts-pays u None None k m p = refl
amounts-pays u None (Some c) k m p = absurd p
amounts-pays u (Some b) None k m p = absurd p
amounts-pays u (Some b) (Some c) k m p = ap Some p.amounts

-- the sums fit, where what is presented in each currency does
pub fits-sums : (u : List NoteKind) (records : List Rec) (l : Option Live) (b : Option Bound) (k : Kind) (m : Counts) → IsBound u records l b
    → (k ≡ Present → (c : List ℕ) → presented_in u records c + value u m c ≤ 999999999999) → FitsSums u k m b
fits-sums u records l None k m h small = tt
fits-sums u records None (Some b) k m h small = absurd h
fits-sums u records (Some l) (Some b) k m h small = λ is i a e. let s = small is a.0 in let t = h.sums i a e in omega (arith, s, t)

-- the nonce of an issue lives once it is written
pub live-issued : (records : List Rec) (n w : ℕ) (x : Nonce) → x.text ≡ nonce_text n w → x.number ≡ n → live_nonce (records ++ Issue n w ∷ []) ≡ Some x
live-issued records n w x text number = rw (live_of-push records (Issue n w), record_at-pushed records (Issue n w)) (ap Some (rw (← text, ← number) refl))

-- a journal that is open has nothing in doubt
pub KeepsLedger-read : {base : ℕ} (records : List Rec) (d : Option Rec) (s m : Bool) (u : List NoteKind) (i k : ℕ) (l : Option Live) (b : Option Bound) (x : Option Nonce) → IsReadFrom records base u i k l b → d ≡ None → KeepsLedger records base d s m u i k l b x
KeepsLedger-read records d s m u i k l b x h none = record { read = λ _ _. h; lives = λ _. h.lives; doubts = λ n e. absurd (never n (rw none at e)) }
  where
    never : (n : Nonce) → nonce_of None ≡ Some n → ⊥
    never n e = cc

-- a record was not written, or it is not known whether it was; where it is an issue, its nonce is kept
pub KeepsLedger-refused : {base : ℕ} (e : Deny) (records : List Rec) (r : Rec) (d d' : Option Rec) (s s' m : Bool) (u : List NoteKind) (i k : ℕ) (l : Option Live) (b : Option Bound) (x x' : Option Nonce) → KeepsLedger records base d s m u i k l b x → IsWriteFault e
    → (e ≡ Memory → (s' ≡ s) × (d' ≡ d) × (x' ≡ x)) → (e ≡ Disk → (s' ≡ true) × (d' ≡ Some r)) → (e ≡ Disk → IsDoubted (Some r) x') → KeepsLedger records base d' s' m u i k l b x'
KeepsLedger-refused e records r d d' s s' m u i k l b x x' h (inl is) memory disk doubts =
    let same = memory is in rw (same.0, same.1, same.2) h
KeepsLedger-refused e records r d d' s s' m u i k l b x x' h (inr is) memory disk doubts =
    let shut = disk is in record { read = λ still booted. absurd (true≢false (sym shut.0 ∙ still)); lives = h.lives; doubts = rw shut.1 (doubts is) }

-- the journal is shut, or as before
pub KeepsLedger-shut : {base : ℕ} (records : List Rec) (d : Option Rec) (s s' m : Bool) (u : List NoteKind) (i k : ℕ) (l : Option Live) (b : Option Bound) (x : Option Nonce) → KeepsLedger records base d s m u i k l b x → (s' ≡ s) ⊎ (s' ≡ true) → KeepsLedger records base d s' m u i k l b x
KeepsLedger-shut records d s s' m u i k l b x h (inl same) = rw same h
KeepsLedger-shut records d s s' m u i k l b x h (inr shut) = record { read = λ still booted. absurd (true≢false (sym shut ∙ still)); lives = h.lives; doubts = h.doubts }

-- no nonce is kept for the record of a start
pub boot_of-doubts : (records : List Rec) (p : Places) (x : Option Nonce) → IsDoubted (Some (boot_of records p)) x
boot_of-doubts records p x = of (boot_of records p) (boot_of-places records p)
  where
    none : (n : Nonce) → None ≡ Some n → x ≡ Some n
    none n e = cc

    of : (r : Rec) → boot_places r ≡ Some p → IsDoubted (Some r) x
    of (Boot q) is n e = none n e
    of (Start issues q) is n e = none n e
    of (Issue number word) is n e = cc
    of Clear is n e = none n e
    of Expire is n e = none n e
    of (Bind t) is n e = none n e
    of (Order k c) is n e = none n e
    of (Done m d) is n e = none n e
    of (Load u c) is n e = none n e

-- the journal was read again and got no Boot: either it is missing, or it is not known whether it was written
pub KeepsLedger-unbooted : {base : ℕ} (records : List Rec) (d : Option Rec) (s m : Bool) (u : List NoteKind) (i k : ℕ) (l : Option Live) (b : Option Bound) (x : Option Nonce)
    → (m ≡ false → s ≡ true) → (m ≡ false → IsLive records l) → IsDoubted d x → KeepsLedger records base d s m u i k l b x
KeepsLedger-unbooted records d s m u i k l b x shut lives doubts = record { read = λ still booted. absurd (true≢false (sym (shut booted) ∙ still)); lives = lives; doubts = doubts }

-- a list that was read again begins with the kept one, and has at most one record more
pub front-possible : (records found : List Rec) (d : Option Rec) → IsPossible records d found → take (length records) found ≡ records
front-possible records found d (inl is) = rw is (take-length records)
front-possible records found d (inr (r, doubt, is)) = rw is (take-append_seam records (r ∷ []))

pub longer-possible : (records list : List Rec) (d : Option Rec) → IsPossible records d list → (length records ≤ length list) × (length list ≤ length records + 1)
longer-possible records list d (inl is) = rw is (omega arith, omega arith)
longer-possible records list d (inr (r, doubt, is)) = let e = length-append records (r ∷ []) in rw is (omega (arith, e), omega (arith, e))

-- the nonce that is kept for the record in doubt is that of the record that was found
pub doubts-possible : (records list : List Rec) (d : Option Rec) (x : Option Nonce) → IsPossible records d list → IsDoubted d x → IsDoubted (record_at list (length records + 1)) x
doubts-possible records list d x (inl is) doubts = rw is (none (record_at records (length records + 1)) refl)
  where
    none : (o : Option Rec) → record_at records (length records + 1) ≡ o → IsDoubted o x
    none None e = λ n never. absurd (no n never)
      where
        no : (n : Nonce) → nonce_of None ≡ Some n → ⊥
        no n e = cc
    none (Some r) e = let w = record_at-within records (length records + 1) r e in absurd (omega (arith, w.1))
doubts-possible records list d x (inr (r, doubt, is)) doubts = rw (is, record_at-pushed records r) (rw doubt at doubts)

-- a list that is longer than a prefix of it by one record
pub front-record : (found : List Rec) (n : ℕ) (r : Rec) → slice_get found n ≡ Some r → length found ≤ n + 1 → (found ≡ take n found ++ r ∷ []) × (length (take n found) ≡ n)
front-record found n r e le =
    let within = slice_get_within found n r e in
    (sym (take_all (n + 1) found le) ∙ (take_more found n r within ∙ ap (λ y. take n found ++ y ∷ []) (get_or_from_slice_get found n r r e)), length-take-le n found (omega (arith, within)))

last-at : (list : List Rec) (n : ℕ) (r : Rec) → slice_get list n ≡ Some r → record_at list (n + 1) ≡ Some r
last-at list n r at = let up : n + 1 ≡ suc n = omega arith in ap (record_at list) up ∙ at

-- the issue in doubt was found, and lives
pub found-issue : (list : List Rec) (n number word : ℕ) (r : Rec) (d : Option Nonce) (x : Nonce) → slice_get list n ≡ Some r → r ≡ Issue number word → length list ≤ n + 1 → IsDoubted (record_at list (n + 1)) d → d ≡ Some x
    → IsLive list (Some (record { number = n + 1; nonce = x }))
found-issue list n number word r d x at is le doubts kept =
    let prefix = front-record list n r at le in
    let lives : live_of list ≡ Some (length (take n list) + 1) = ap live_of prefix.0 ∙ (live_of-push (take n list) r ∙ rw is refl) in
    let there : record_at list (n + 1) ≡ Some r = last-at list n r at in
    (lives ∙ ap (λ k. Some (k + 1)) prefix.1, rw (there, is) (sym ((rw (there, is) at doubts) (record { text = nonce_text number word; number = number }) refl) ∙ kept))

-- the nonce of an issue in doubt is kept
pub kept-issue : (list : List Rec) (n number word : ℕ) (r : Rec) (d : Option Nonce) → slice_get list n ≡ Some r → r ≡ Issue number word → IsDoubted (record_at list (n + 1)) d → d ≡ None → ⊥
kept-issue list n number word r d at is doubts none =
    let there : record_at list (n + 1) ≡ Some r = last-at list n r at in
    let some : d ≡ Some (record { text = nonce_text number word; number = number }) = (rw (there, is) at doubts) (record { text = nonce_text number word; number = number }) refl in
    let never : None ≡ Some (record { text = nonce_text number word; number = number }) = sym none ∙ some in cc

-- another record than a mark was found, and leaves the live issue
pub found-plain : (list : List Rec) (n : ℕ) (r : Rec) (l : Option Live) → slice_get list n ≡ Some r → length list ≤ n + 1
    → ((number word : ℕ) → r ≡ Issue number word → ⊥) → (r ≡ Clear → ⊥) → (r ≡ Expire → ⊥) → ((p : Places) → r ≡ Boot p → ⊥) → ((issues : ℕ) (p : Places) → r ≡ Start issues p → ⊥) → IsLive (take n list) l → IsLive list l
found-plain list n r l at le issue clear expire boot start lives =
    let prefix = front-record list n r at le in
    rw prefix.0 (lives-plain (take n list) r l lives (λ k o. keeps r issue clear expire boot start k o))
  where
    keeps : (r : Rec) → ((number word : ℕ) → r ≡ Issue number word → ⊥) → (r ≡ Clear → ⊥) → (r ≡ Expire → ⊥) → ((p : Places) → r ≡ Boot p → ⊥) → ((issues : ℕ) (p : Places) → r ≡ Start issues p → ⊥) → (k : ℕ) (o : Option ℕ) → live_after k o r ≡ o
    keeps (Issue number word) issue clear expire boot start k o = absurd (issue number word refl)
    keeps Clear issue clear expire boot start k o = absurd (clear refl)
    keeps Expire issue clear expire boot start k o = absurd (expire refl)
    keeps (Boot p) issue clear expire boot start k o = absurd (boot p refl)
    keeps (Start issues p) issue clear expire boot start k o = absurd (start issues p refl)
    keeps (Bind t) issue clear expire boot start k o = refl
    keeps (Order kind c) issue clear expire boot start k o = refl
    keeps (Done m d) issue clear expire boot start k o = refl
    keeps (Load u c) issue clear expire boot start k o = refl

-- what a call asks of a ledger holds of what stands for it
pub fresh-at : {D : Type 0} (a b : LedgerView D) → a ≡ b → ((c : List ℕ) → presented_in b.units b.records c ≡ 0) → (c : List ℕ) → presented_in a.units a.records c ≡ 0
fresh-at a b e h c = rw e (h c)

pub small-at : {D : Type 0} (a b : LedgerView D) (k : Kind) (m : Counts) → a ≡ b → (k ≡ Present → (c : List ℕ) → presented_in b.units b.records c + value b.units m c ≤ 999999999999)
    → k ≡ Present → (c : List ℕ) → presented_in a.units a.records c + value a.units m c ≤ 999999999999
small-at a b k m e h is c = rw e (h is c)
