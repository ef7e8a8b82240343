-- Motions that put notes out, read along the records.
use Rattle.std.proofs.Common.{◌≡◌, ◌≢◌, ℕ, zero, suc, ◌+◌, ◌-◌, ◌<◌, ◌≤◌, List, [], ◌∷◌, ◌++◌, take, drop, length, get_or, add-one, Some, None, true, false, refl, sym, ap, subst, ◌∙◌, ◌⊎◌, inl, inr, arith}
use Rattle.std.specs.Prelude.{slice_index}
use Rattle.std.specs.List.{AllByRecursion}
use Rattle.std.specs.declared.option.Option.{Option}
use Rattle.std.proofs.lemmas.Option.{same_Some}
use Rattle.std.proofs.lemmas.List.Sums.{sum_by-append, sum_by-cons}
use Rattle.xfs_base.specs.Money.{value}
use Rattle.xfs_base.specs.declared.counts.Counts.{Counts}
use Rattle.xfs_base.specs.declared.counts.Kind.TheVariants.{Stack, Present, Reject, Retract}
use Rattle.xfs_base.specs.declared.money.NoteKind.{NoteKind}
use Rattle.xfs_token.specs.Token.{Parts}
use Rattle.xfs_token.specs.Amounts.{amount, amounts_of}
use Rattle.xfs_token.proofs.Whole.{one_token}
use Rattle.xfs_mech.specs.declared.motion.Motion.{Motion}
use Rattle.xfs_mech.specs.declared.motion.Motion.TheVariants.{Moved, Taken, Loaded}
use Rattle.xfs_mech.proofs.MotionLaws.{all-right}
use Rattle.xfs_journal.specs.declared.record.Rec.{Rec}
use Rattle.xfs_journal.specs.Journal.{Reading, live_of, live_at, token_of}
use Rattle.xfs_guard.specs.Within.{shown, shown_by, IsPaidFor, IsWithin, Within}
use Rattle.xfs_guard.proofs.WithinLaws.{Within-present, Within-quiet, shown-motion, shown_by-own, shown_by-other}
use Rattle.xfs_audit.specs.Reading.{IsRead}
use Rattle.xfs_audit.specs.Claims.{IsClaimOf, Spends, allowed, IsUnder}
use Rattle.xfs_audit.specs.Paying.{IsPaying, IsCharged, IsClaimed, IsPresentOrder, IsQuiet, PutsOut, SpendsThere}
use Rattle.xfs_audit.specs.Told.{low_after}
use Rattle.xfs_guard.specs.Agrees.{IsAsked, IsOrdered, RisesFrom}
use Rattle.xfs_mech.specs.Motions.{NumberIs}
use Rattle.std.proofs.Math.Seq.{drop-cons}
use Rattle.std.proofs.lemmas.List.{take-append-drop, take_more}
use Rattle.xfs_audit.specs.declared.reader.Reader.{Reader}
use Rattle.xfs_audit.specs.declared.claim.Claim.{Claim}
use Rattle.xfs_audit.specs.declared.payer.Payer.{Payer}
use Rattle.xfs_audit.proofs.Worth.{currency-or-not, none-shown, no-worth}

-- the issue in whose segment the next record stands
pub lives-here : (J : List Rec) (r : Reader) (n : ℕ) → IsRead J r → r.count + 1 ≡ n → live_at J n ≡ r.live
lives-here J r n read e =
    let last : n - 1 ≡ r.count = omega arith in
    ap (λ (i : ℕ). live_of (take i J)) last ∙ ap (λ (x : Reading). x.live) read.read

-- the records were read on, and the same issue lives
pub turn-same : (k : List ℕ) (u : List NoteKind) (J : List Rec) (done : List Motion) (old new : Payer) → IsPaying k u J done old → IsRead J new.read → old.read.count ≤ new.read.count
    → new.read.live ≡ old.read.live → new.claim ≡ old.claim → IsPaying k u J done new
turn-same k u J done old new paying read le live claim = record {
  within = paying.within;
  read = read;
  quiet = λ p currency lt. paying.quiet p currency (omega arith);
  claimed = rw (live, claim) paying.claimed;
}

-- the records were read on, and another issue lives
pub turn-other : (k : List ℕ) (u : List NoteKind) (J : List Rec) (done : List Motion) (old new : Payer) → IsPaying k u J done old → IsRead J new.read → old.read.count ≤ new.read.count
    → ((p : ℕ) → new.read.live ≡ Some p → (old.read.live ≡ Some p) ⊎ (old.read.count < p)) → new.read.live ≢ old.read.live → new.claim ≡ None → IsPaying k u J done new
turn-other k u J done old new paying read le newer other claim = record {
  within = paying.within;
  read = read;
  quiet = λ p currency lt. paying.quiet p currency (omega arith);
  claimed = rw claim (λ p currency lives. elim (newer p lives) [
    | inl was ↦ absurd (other (lives ∙ sym was))
    | inr new ↦ paying.quiet p currency new
  ]);
}

-- a claim is made, where there was none
pub made : (k : List ℕ) (u : List NoteKind) (J : List Rec) (done : List Motion) (old : Payer) (issue : ℕ) (claim : Claim) → IsPaying k u J done old → old.claim ≡ None → old.read.live ≡ Some issue
    → IsClaimOf k J issue (Some claim) → IsPaying k u J done (record { read = old.read; claim = Some claim })
made k u J done old issue claim paying none lives is =
    let nothing : IsClaimed k u J done old.read.live None = rw none at paying.claimed in record {
      within = paying.within;
      read = paying.read;
      quiet = paying.quiet;
      claimed = record { issue = issue; lives = lives; token = is.0; sums = λ i kind there. is.1 i ∙ sym (nothing issue kind.currency lives) };
    }

-- what a token's amounts allow is what it is worth
worth : (amounts : Option (List (List ℕ × ℕ))) (t : Parts) (c : List ℕ) → amounts ≡ amounts_of t → allowed amounts c ≡ amount t c
unfolding amount
worth amounts t c e = rw e refl

-- notes are put out on a claim that covers them
pub spent : (k : List ℕ) (u : List NoteKind) (J : List Rec) (done : List Motion) (old : Payer) (claim now : Claim) (n : ℕ) (counts moved diverted : Counts) → IsPaying k u J done old → old.claim ≡ Some claim
    → old.read.count + 1 ≡ n → IsPresentOrder J n counts → Spends u moved claim now true → IsPaying k u J (done ++ Moved n Present moved diverted ∷ []) (record { read = old.read; claim = Some now })
spent k u J done old claim now n counts moved diverted paying there next ordered spends =
    let charged : IsCharged k u J done old.read.live claim = rw there at paying.claimed in
    let p : ℕ = charged.issue in
    let token = charged.token in
    let lives : live_at J n ≡ Some p = lives-here J old.read n paying.read next ∙ charged.lives in
    let known : p ≤ old.read.count = paying.read.known p charged.lives in
    record {
      within = Within-present k u J done n p token.bytes token.token counts moved diverted ordered lives token.bound token.carries (covers charged) paying.within;
      read = paying.read;
      quiet = λ q c lt. let e = shown-motion u J q c done (Moved n Present moved diverted) in let z = shown_by-other u J p n q c moved diverted lives (λ same. omega arith) in let old_quiet = paying.quiet q c lt in omega (arith, e, z, old_quiet);
      claimed = record {
        issue = p;
        lives = charged.lives;
        token = rw spends.amounts token;
        sums = λ i kind got. let e = shown-motion u J p kind.currency done (Moved n Present moved diverted) in let z = shown_by-own u J p n kind.currency moved diverted lives in let paid = spends.paid i kind got in let sum = charged.sums i kind got in omega (arith, e, z, paid.sum, sum);
      };
    }
  where
    covers : (charged : IsCharged k u J done old.read.live claim) → (c : List ℕ) → shown u J done charged.issue c + value u moved c ≤ amount charged.token.token c
    covers charged c = elim (currency-or-not u c) [
      | inl has ↦ let paid = spends.paid has.place has.kind has.there in let sum = charged.sums has.place has.kind has.there in let w = worth claim.amounts charged.token.token has.kind.currency charged.token.amounts_are in
          let enough : shown u J done charged.issue has.kind.currency + value u moved has.kind.currency ≤ amount charged.token.token has.kind.currency = omega (arith, paid.sum, paid.enough, sum, w) in rw has.same at enough
      | inr other ↦ let a = none-shown u J done charged.issue c other in let b = no-worth u moved c other in omega (arith, a, b)
    ]

paid-there : (k : List ℕ) (u : List NoteKind) (J : List Rec) (done rest : List Motion) (n : ℕ) (moved diverted : Counts) → Within k u J (done ++ Moved n Present moved diverted ∷ rest) → IsPaidFor k u J (done ++ Moved n Present moved diverted ∷ rest) n
paid-there k u J done rest n moved diverted within = (all-right (IsWithin k u J (done ++ Moved n Present moved diverted ∷ rest)) done (Moved n Present moved diverted ∷ rest) within).0

-- no issue lives
pub unpaid-dead : (k : List ℕ) (u : List NoteKind) (J : List Rec) (done rest : List Motion) (r : Reader) (n : ℕ) (moved diverted : Counts) → IsRead J r → r.count + 1 ≡ n → r.live ≡ None
    → Within k u J (done ++ Moved n Present moved diverted ∷ rest) → ⊥
unpaid-dead k u J done rest r n moved diverted read next dead within =
    let paid = paid-there k u J done rest n moved diverted within in
    let lives : live_at J n ≡ None = lives-here J r n read next ∙ dead in
    let is = paid.lives in cc

-- the live issue has no token
pub unpaid-unclaimed : (k : List ℕ) (u : List NoteKind) (J : List Rec) (done rest : List Motion) (r : Reader) (n p : ℕ) (moved diverted : Counts) → IsRead J r → r.count + 1 ≡ n → r.live ≡ Some p → IsClaimOf k J p None
    → Within k u J (done ++ Moved n Present moved diverted ∷ rest) → ⊥
unpaid-unclaimed k u J done rest r n p moved diverted read next live none within =
    let paid = paid-there k u J done rest n moved diverted within in
    let same : paid.issue ≡ p = same_Some paid.issue p (sym paid.lives ∙ lives-here J r n read next ∙ live) in
    none (amounts_of paid.covered.token) (record { bytes = paid.bytes; bound = rw same at paid.bound; token = paid.covered.token; carries = rw same at paid.covered.carries; amounts_are = refl })

-- the claim doesn't cover the notes
pub unpaid-over : (k : List ℕ) (u : List NoteKind) (J : List Rec) (done rest : List Motion) (old : Payer) (claim now : Claim) (n : ℕ) (moved diverted : Counts) → IsPaying k u J done old → old.claim ≡ Some claim
    → old.read.count + 1 ≡ n → Spends u moved claim now false → Within k u J (done ++ Moved n Present moved diverted ∷ rest) → ⊥
unpaid-over k u J done rest old claim now n moved diverted paying there next spends within =
    let charged : IsCharged k u J done old.read.live claim = rw there at paying.claimed in
    let p : ℕ = charged.issue in
    let token = charged.token in
    let paid = paid-there k u J done rest n moved diverted within in
    let lives : live_at J n ≡ Some p = lives-here J old.read n paying.read next ∙ charged.lives in
    let same : paid.issue ≡ p = same_Some paid.issue p (sym paid.lives ∙ lives) in
    let bound : token_of J p ≡ Some paid.bytes = rw same at paid.bound in
    let bytes : paid.bytes ≡ token.bytes = same_Some paid.bytes token.bytes (sym bound ∙ token.bound) in
    let spelled = rw bytes at paid.covered.carries.genuine.spelled in
    let one : paid.covered.token ≡ token.token = one_token paid.covered.token token.token token.bytes spelled token.carries.genuine.spelled in
    let over = spends.over in
    let c : List ℕ = over.kind.currency in
    let w : allowed claim.amounts c ≡ amount token.token c = worth claim.amounts token.token c token.amounts_are in
    let enough : shown u J (done ++ Moved n Present moved diverted ∷ rest) p c ≤ amount token.token c = rw (same, one) at (paid.covered.enough c) in
    let a = sum_by-append (shown_by u J p c) done (Moved n Present moved diverted ∷ rest) in
    let b = sum_by-cons (shown_by u J p c) (Moved n Present moved diverted) rest in
    let z = shown_by-own u J p n c moved diverted lives in
    let sum = charged.sums over.place over.kind over.there in
    omega (arith, w, enough, a, b, z, sum, over.over)

quiet-one : (u : List NoteKind) (J : List Rec) (m : Motion) → IsQuiet m → (p : ℕ) (c : List ℕ) → shown_by u J p c m ≡ 0
quiet-one u J (Moved n Present m d) quiet p c = absurd quiet
quiet-one u J (Moved n Stack m d) quiet p c = refl
quiet-one u J (Moved n Reject m d) quiet p c = refl
quiet-one u J (Moved n Retract m d) quiet p c = refl
quiet-one u J (Taken t) quiet p c = refl
quiet-one u J (Loaded i t) quiet p c = refl

quiet-within : (k : List ℕ) (u : List NoteKind) (J : List Rec) (motions : List Motion) (m : Motion) → IsQuiet m → IsWithin k u J motions m
quiet-within k u J motions (Moved n Present m d) quiet = absurd quiet
quiet-within k u J motions (Moved n Stack m d) quiet = tt
quiet-within k u J motions (Moved n Reject m d) quiet = tt
quiet-within k u J motions (Moved n Retract m d) quiet = tt
quiet-within k u J motions (Taken t) quiet = tt
quiet-within k u J motions (Loaded i t) quiet = tt

same-shown : (u : List NoteKind) (J : List Rec) (done : List Motion) (m : Motion) → IsQuiet m → (p : ℕ) (c : List ℕ) → shown u J (done ++ m ∷ []) p c ≡ shown u J done p c
same-shown u J done m quiet p c = let e = shown-motion u J p c done m in let z = quiet-one u J m quiet p c in omega (arith, e, z)

-- a motion that puts nothing out is paid for
pub quiet-more : (k : List ℕ) (u : List NoteKind) (J : List Rec) (done : List Motion) (m : Motion) (payer : Payer) → IsQuiet m → IsPaying k u J done payer → IsPaying k u J (done ++ m ∷ []) payer
quiet-more k u J done m payer quiet paying = record {
  within = Within-quiet k u J done m (quiet-one u J m quiet) (quiet-within k u J (done ++ m ∷ []) m quiet) paying.within;
  read = paying.read;
  quiet = λ p c lt. same-shown u J done m quiet p c ∙ paying.quiet p c lt;
  claimed = of payer.read.live payer.claim paying.claimed;
}
  where
    of : (live : Option ℕ) (claim : Option Claim) → IsClaimed k u J done live claim → IsClaimed k u J (done ++ m ∷ []) live claim
    of live None none = λ p c lives. same-shown u J done m quiet p c ∙ none p c lives
    of live (Some claim) charged = record { issue = charged.issue; lives = charged.lives; token = charged.token; sums = λ i kind there. charged.sums i kind there ∙ sym (same-shown u J done m quiet charged.issue kind.currency) }

pub spent-there : (k : List ℕ) (u : List NoteKind) (J : List Rec) (done : List Motion) (old : Payer) (r : Reader) (claim : Option Claim) (n : ℕ) (counts moved diverted : Counts) → IsPaying k u J done old → r ≡ old.read
    → old.read.count + 1 ≡ n → IsPresentOrder J n counts → SpendsThere u moved old.claim claim true → IsPaying k u J (done ++ Moved n Present moved diverted ∷ []) (record { read = r; claim = claim })
spent-there k u J done old r claim n counts moved diverted paying same next ordered spends = rw same (by old.claim claim refl spends)
  where
    by : (a b : Option Claim) → old.claim ≡ a → SpendsThere u moved a b true → IsPaying k u J (done ++ Moved n Present moved diverted ∷ []) (record { read = old.read; claim = b })
    by None None there s = absurd s
    by None (Some y) there s = absurd s
    by (Some x) None there s = absurd s
    by (Some x) (Some y) there s = spent k u J done old x y n counts moved diverted paying there next ordered s

pub unpaid-there : (k : List ℕ) (u : List NoteKind) (J : List Rec) (done rest : List Motion) (old : Payer) (claim : Option Claim) (n : ℕ) (moved diverted : Counts) → IsPaying k u J done old
    → old.read.count + 1 ≡ n → SpendsThere u moved old.claim claim false → Within k u J (done ++ Moved n Present moved diverted ∷ rest) → ⊥
unpaid-there k u J done rest old claim n moved diverted paying next spends within = by old.claim claim refl spends
  where
    by : (a b : Option Claim) → old.claim ≡ a → SpendsThere u moved a b false → ⊥
    by None None there s = absurd s
    by None (Some y) there s = absurd s
    by (Some x) None there s = absurd s
    by (Some x) (Some y) there s = unpaid-over k u J done rest old x y n moved diverted paying there next s within

-- an entry that puts notes out is a moved one
pub paid-entry : (k : List ℕ) (u : List NoteKind) (J : List Rec) (done : List Motion) (entry : Motion) (n : ℕ) (moved : Counts) (now : Payer) → PutsOut entry n moved → IsAsked J entry
    → ((counts diverted : Counts) → IsPresentOrder J n counts → IsPaying k u J (done ++ Moved n Present moved diverted ∷ []) now) → IsPaying k u J (done ++ entry ∷ []) now
paid-entry k u J done entry n moved now out asked pays =
    let order : IsOrdered J n Present moved out.diverted = rw out.is at asked in
    rw out.is (pays order.counts out.diverted order.ordered)

pub unpaid-entry : (k : List ℕ) (u : List NoteKind) (J : List Rec) (done rest : List Motion) (entry : Motion) (n : ℕ) (moved : Counts) → PutsOut entry n moved
    → ((diverted : Counts) → Within k u J (done ++ Moved n Present moved diverted ∷ rest) → ⊥) → Within k u J (done ++ entry ∷ rest) → ⊥
unpaid-entry k u J done rest entry n moved out unpaid within = unpaid out.diverted (rw out.is at within)

-- the first number of a list that rises, and the rest of it
pub rises-first : (low : ℕ) (x : Motion) (ms : List Motion) → RisesFrom low (x ∷ ms) → NumberIs (λ n. low < n) x × RisesFrom (low_after low x) ms
rises-first low (Moved n k m d) ms r = (r.0, r.1)
rises-first low (Taken c) ms r = (tt, r)
rises-first low (Loaded u c) ms r = (tt, r)

pub cut-at : (ms : List Motion) (i : ℕ) (d : Motion) → i < length ms → drop i ms ≡ get_or ms i d ∷ drop (i + 1) ms
cut-at ms i d lt = rw (add-one) (drop-cons ms i d lt)

pub whole-at : (ms : List Motion) (i : ℕ) (d : Motion) → i < length ms → ms ≡ take i ms ++ get_or ms i d ∷ drop (i + 1) ms
whole-at ms i d lt = sym (take-append-drop i ms) ∙ ap (λ (l : List Motion). take i ms ++ l) (cut-at ms i d lt)

pub all-at : (P : Motion → Type 0) (ms : List Motion) (i : ℕ) (d : Motion) → i < length ms → AllByRecursion P ms → P (get_or ms i d)
all-at P [] i d lt all = absurd (omega arith)
all-at P (m ∷ ms) zero d lt all = all.0
all-at P (m ∷ ms) (suc i) d lt all = all-at P ms i d (omega arith) all.1

pub low-weaker : (a b : ℕ) (x : Motion) → a ≤ b → NumberIs (λ n. b < n) x → NumberIs (λ n. a < n) x
low-weaker a b (Moved n k m d) le low = omega (arith, low)
low-weaker a b (Taken c) le low = tt
low-weaker a b (Loaded u c) le low = tt

pub under-zero : (claim : Claim) → ((u : ℕ) → slice_index claim.shown u ≡ 0) → IsUnder claim
under-zero claim zeros u = let z = zeros u in omega (arith, z)

pub unbroken : (k : List ℕ) (u : List NoteKind) (J : List Rec) (ms : List Motion) (i : ℕ) (d : Motion) → i < length ms → (Within k u J (take i ms ++ get_or ms i d ∷ drop (i + 1) ms) → ⊥) → Within k u J ms → ⊥
unbroken k u J ms i d lt broken within = broken (subst (λ (l : List Motion). Within k u J l) (whole-at ms i d lt) within)

pub paying-more : (k : List ℕ) (u : List NoteKind) (J : List Rec) (ms : List Motion) (i : ℕ) (d : Motion) (payer : Payer) → i < length ms → IsPaying k u J (take i ms ++ get_or ms i d ∷ []) payer → IsPaying k u J (take (i + 1) ms) payer
paying-more k u J ms i d payer lt paying = rw (take_more ms i d lt) paying

pub rises-on : (ms : List Motion) (i : ℕ) (d : Motion) (low count : ℕ) → i < length ms → RisesFrom low (drop i ms) → count ≤ low_after low (get_or ms i d) → (l : ℕ) × RisesFrom l (drop (i + 1) ms) × (count ≤ l)
rises-on ms i d low count lt rises le = (low_after low (get_or ms i d), (rises-first low (get_or ms i d) (drop (i + 1) ms) (rw (cut-at ms i d lt) at rises)).1, le)
