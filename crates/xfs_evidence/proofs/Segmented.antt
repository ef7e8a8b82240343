-- The notes that a mechanism put out since the last Issue are those of the orders of its segment.
use Rattle.std.proofs.Common.{◌≡◌, ⊎_elim, ℕ, zero, suc, ◌+◌, ◌-◌, ◌<◌, ◌≤◌, Bool, true, false, ◌&&◌, List, [], ◌∷◌, ◌++◌, length, take, None, Some, refl, sym, ◌∙◌, ap, ap₂, arith, true≢false, length-append, append_assoc}
use Rattle.std.specs.Prelude.{if◌then◌else◌, nat_le, nat_lt, fold}
use Rattle.std.specs.declared.option.Option.{Option}
use Rattle.std.specs.List.{sum_by, list_any, before_first}
use Rattle.std.proofs.lemmas.Bool.{cases_lt, and_from, or_parts, le-leb, lt-leb, lt-ltb, le-ltb, eq-eqb, ne_eqb}
use Rattle.std.proofs.lemmas.List.{append-nil, take-append-le}
use Rattle.xfs_base.specs.Money.{value_from}
use Rattle.xfs_base.specs.declared.counts.Counts.{Counts}
use Rattle.xfs_base.specs.declared.counts.Kind.TheVariants.{Stack, Present, Reject, Retract}
use Rattle.xfs_base.specs.declared.money.NoteKind.{NoteKind}
use Rattle.xfs_mech.specs.declared.motion.Motion.{Motion}
use Rattle.xfs_mech.specs.declared.motion.Motion.TheVariants.{Moved, Taken, Loaded}
use Rattle.xfs_journal.specs.declared.record.Rec.{Rec}
use Rattle.xfs_journal.specs.declared.record.Rec.TheVariants.{Issue, Clear, Expire, Boot, Start, Bind, Order, Done, Load}
use Rattle.xfs_journal.specs.Journal.{is_issue, is_mark, record_at, live_at, live_of, is_place, Reading, reading_after, nothing_read}
use Rattle.xfs_journal.proofs.JournalLaws.{reading-count, record_at-within}
use Rattle.xfs_guard.specs.Agrees.{Agrees, IsAsked}
use Rattle.xfs_guard.specs.Segment.{has_issue, last_issue, segment, presented_last}
use Rattle.xfs_guard.specs.Within.{shown_by, shown}
use Rattle.xfs_guard.specs.Presented.{presented_in}
use Rattle.xfs_guard.proofs.SegmentLaws.{cut, last_issue-cut, behind_issue-cut, has_issue-append, before-cons}
use Rattle.xfs_evidence.specs.Evidence.{first_open}
use Rattle.xfs_evidence.proofs.Shares.{across, in_span, share, sum-same, there}

-- records up to the first mark, and the rest
record IsSplit (B : List Rec) : Type 0 where
  S : List Rec
  R : List Rec
  is : B ≡ S ++ R
  front : before_first is_mark B ≡ S
  unmarked : list_any is_mark S ≡ false
  marked : (r : Rec) (X : List Rec) → R ≡ r ∷ X → is_mark r ≡ true

split : (B : List Rec) → IsSplit B
split [] = record { S = []; R = []; is = refl; front = refl; unmarked = refl; marked = λ r X e. absurd (cc) }
split (x ∷ xs) = by (is_mark x) refl (split xs)
  where
    by : (b : Bool) → is_mark x ≡ b → IsSplit xs → IsSplit (x ∷ xs)
    by true e s = record { S = []; R = x ∷ xs; is = refl; front = before-cons x xs ∙ rw e refl; unmarked = refl; marked = λ r X is. (let same : x ≡ r = cc in ap is_mark (sym same) ∙ e) }
    by false e s = record {
      S = x ∷ s.S;
      R = s.R;
      is = ap (λ l. x ∷ l) s.is;
      front = before-cons x xs ∙ rw e (ap (λ l. x ∷ l) s.front);
      unmarked = rw e s.unmarked;
      marked = s.marked;
    }

still : (s : Reading) (xs : List Rec) → list_any is_mark xs ≡ false → (fold reading_after s xs).live ≡ s.live
still s [] none = refl
still s (Issue i x ∷ xs) none = absurd (true≢false none)
still s (Clear ∷ xs) none = absurd (true≢false none)
still s (Expire ∷ xs) none = absurd (true≢false none)
still s (Boot p ∷ xs) none = absurd (true≢false none)
still s (Start i p ∷ xs) none = absurd (true≢false none)
still s (Bind t ∷ xs) none = still (reading_after s (Bind t)) xs none
still s (Order k x ∷ xs) none = still (reading_after s (Order k x)) xs none
still s (Done m d ∷ xs) none = still (reading_after s (Done m d)) xs none
still s (Load i x ∷ xs) none = still (reading_after s (Load i x)) xs none

-- where no issue comes, none begins to live
dead : (s : Reading) (xs : List Rec) → has_issue xs ≡ false → s.live ≡ None → (fold reading_after s xs).live ≡ None
dead s [] none e = e
dead s (Issue i x ∷ xs) none e = absurd (true≢false none)
dead s (Clear ∷ xs) none e = dead (reading_after s Clear) xs none refl
dead s (Expire ∷ xs) none e = dead (reading_after s Expire) xs none refl
dead s (Boot p ∷ xs) none e = dead (reading_after s (Boot p)) xs none refl
dead s (Start i p ∷ xs) none e = dead (reading_after s (Start i p)) xs none refl
dead s (Bind t ∷ xs) none e = dead (reading_after s (Bind t)) xs none e
dead s (Order k x ∷ xs) none e = dead (reading_after s (Order k x)) xs none e
dead s (Done m d ∷ xs) none e = dead (reading_after s (Done m d)) xs none e
dead s (Load i x ∷ xs) none e = dead (reading_after s (Load i x)) xs none e

-- an issue lives behind it while no mark comes
lives : (front : List Rec) (n w : ℕ) (behind : List Rec) → list_any is_mark behind ≡ false → live_of (front ++ Issue n w ∷ behind) ≡ Some (length front + 1)
lives front n w behind none = from nothing_read front ∙ ap (λ (k : ℕ). Some (k + 1)) (reading-count front)
  where
    from : (s : Reading) (xs : List Rec) → (fold reading_after s (xs ++ Issue n w ∷ behind)).live ≡ Some ((fold reading_after s xs).count + 1)
    from s [] = still (reading_after s (Issue n w)) behind none
    from s (x ∷ xs) = from (reading_after s x) xs

-- and none does once a mark came that is no issue
ended : (front : List Rec) (r : Rec) (behind : List Rec) → is_mark r ≡ true → has_issue (r ∷ behind) ≡ false → live_of (front ++ r ∷ behind) ≡ None
ended front r behind mark none = from nothing_read front
  where
    at : (s : Reading) (r : Rec) → is_mark r ≡ true → has_issue (r ∷ behind) ≡ false → (fold reading_after (reading_after s r) behind).live ≡ None
    at s (Issue i x) mark none = absurd (true≢false none)
    at s Clear mark none = dead (reading_after s Clear) behind none refl
    at s Expire mark none = dead (reading_after s Expire) behind none refl
    at s (Boot p) mark none = dead (reading_after s (Boot p)) behind none refl
    at s (Start i p) mark none = dead (reading_after s (Start i p)) behind none refl
    at s (Bind t) mark none = absurd (true≢false (sym mark))
    at s (Order k x) mark none = absurd (true≢false (sym mark))
    at s (Done m d) mark none = absurd (true≢false (sym mark))
    at s (Load i x) mark none = absurd (true≢false (sym mark))

    from : (s : Reading) (xs : List Rec) → (fold reading_after s (xs ++ r ∷ behind)).live ≡ None
    from s [] = at s r mark none
    from s (x ∷ xs) = from (reading_after s x) xs

-- what lives is one of the records
live-step : (s : Reading) (r : Rec) (q : ℕ) → ((q : ℕ) → s.live ≡ Some q → q ≤ s.count) → (reading_after s r).live ≡ Some q → q ≤ s.count + 1
live-step s (Issue i x) q h e = let same : s.count + 1 ≡ q = cc in omega (arith, same)
live-step s Clear q h e = cc
live-step s Expire q h e = cc
live-step s (Boot p) q h e = cc
live-step s (Start i p) q h e = cc
live-step s (Bind t) q h e = let le = h q e in omega (arith, le)
live-step s (Order k x) q h e = let le = h q e in omega (arith, le)
live-step s (Done m d) q h e = let le = h q e in omega (arith, le)
live-step s (Load i x) q h e = let le = h q e in omega (arith, le)

live-within : (xs : List Rec) (q : ℕ) → live_of xs ≡ Some q → q ≤ length xs
live-within xs q e = let le = from nothing_read xs (λ p none. cc) q e in let n = reading-count xs in omega (arith, le, n)
  where
    from : (s : Reading) (xs : List Rec) → ((q : ℕ) → s.live ≡ Some q → q ≤ s.count) → (q : ℕ) → (fold reading_after s xs).live ≡ Some q → q ≤ (fold reading_after s xs).count
    from s [] h q e = h q e
    from s (x ∷ xs) h q e = from (reading_after s x) xs (λ p f. live-step s x p h f) q e

take-short : {X : Type 0} (n : ℕ) (xs : List X) → length (take n xs) ≤ n
take-short zero [] = omega arith
take-short zero (x ∷ xs) = omega arith
take-short (suc n) [] = omega arith
take-short (suc n) (x ∷ xs) = let ih = take-short n xs in omega (arith, ih)

-- fronts of a list
take-front : (A X : List Rec) (r : Rec) (j : ℕ) → take (length A + 1 + j) (A ++ r ∷ X) ≡ A ++ r ∷ take j X
take-front [] X r j = let e : 0 + 1 + j ≡ suc j = omega arith in ap (λ n. take n (r ∷ X)) e
take-front (a ∷ A) X r j = let e : suc (length A) + 1 + j ≡ suc (length A + 1 + j) = omega arith in rw e (ap (λ l. a ∷ l) (take-front A X r j))

unmarked-take : (S : List Rec) (j : ℕ) → list_any is_mark S ≡ false → list_any is_mark (take j S) ≡ false
unmarked-take [] zero none = refl
unmarked-take [] (suc j) none = refl
unmarked-take (s ∷ S) zero none = refl
unmarked-take (s ∷ S) (suc j) none = let parts = or_parts (is_mark s) (list_any is_mark S) none in rw parts.0 (unmarked-take S j parts.1)

unissued-take : (B : List Rec) (j : ℕ) → has_issue B ≡ false → has_issue (take j B) ≡ false
unissued-take [] zero none = refl
unissued-take [] (suc j) none = refl
unissued-take (s ∷ S) zero none = refl
unissued-take (s ∷ S) (suc j) none = let parts = or_parts (is_issue s) (has_issue S) none in rw parts.0 (unissued-take S j parts.1)

module _ (J A : List Rec) (n w : ℕ) (B : List Rec) (is : J ≡ A ++ Issue n w ∷ B) (last : has_issue B ≡ false) (s : IsSplit B) where
  whole : J ≡ A ++ Issue n w ∷ (s.S ++ s.R)
  whole = is ∙ ap (λ l. A ++ Issue n w ∷ l) s.is

  -- before the Issue, it doesn't live
  before : (k : ℕ) → k ≤ length A + 1 → is_place (length A + 1) (live_at J k) ≡ false
  before k le = by (live_at J k) refl
    where
      by : (o : Option ℕ) → live_at J k ≡ o → is_place (length A + 1) o ≡ false
      by None e = refl
      by (Some q) e =
          let within = live-within (take (k - 1) J) q e in
          let size = take-short (k - 1) J in
          ne_eqb q (length A + 1) (λ same. absurd (omega (arith, within, size, le, same)))

  -- in its segment it does
  inside : (k : ℕ) → length A + 1 < k → k ≤ length A + 1 + length s.S → is_place (length A + 1) (live_at J k) ≡ true
  inside k low high =
      let j : ℕ = k - 1 - (length A + 1) in
      let e : k - 1 ≡ length A + 1 + j = omega (arith, low) in
      let front : take (k - 1) J ≡ A ++ Issue n w ∷ take j s.S = ap₂ take e whole ∙ take-front A (s.S ++ s.R) (Issue n w) j ∙ ap (λ l. A ++ Issue n w ∷ l) (take-append-le j s.S s.R (omega (arith, high, low))) in
      ap (λ l. is_place (length A + 1) (live_of l)) front ∙ ap (is_place (length A + 1)) (lives A n w (take j s.S) (unmarked-take s.S j s.unmarked)) ∙ eq-eqb (length A + 1) (length A + 1) refl

  -- behind it, no order is one that lives in it
  outside : (k : ℕ) (counts : Counts) → length A + 1 + length s.S < k → record_at J k ≡ Some (Order Present counts) → is_place (length A + 1) (live_at J k) ≡ false
  outside k counts past at = by s.R refl
    where
      by : (R : List Rec) → s.R ≡ R → is_place (length A + 1) (live_at J k) ≡ false
      by [] none =
          let within = record_at-within J k (Order Present counts) at in
          let size : length J ≡ length A + suc (length s.S) = ap length (whole ∙ ap (λ R. A ++ Issue n w ∷ (s.S ++ R)) none ∙ ap (λ l. A ++ Issue n w ∷ l) (append-nil s.S)) ∙ length-append A (Issue n w ∷ s.S) in
          absurd (omega (arith, within.1, size, past))
      by (r ∷ X) some = ⊎_elim later next (cases_lt (length A + 1 + length s.S + 1) k)
        where
          front : List Rec
          front = A ++ Issue n w ∷ s.S

          cut_at : J ≡ front ++ r ∷ X
          cut_at = whole ∙ ap (λ R. A ++ Issue n w ∷ (s.S ++ R)) some ∙ sym (append_assoc A (Issue n w ∷ s.S) (r ∷ X))

          mark : is_mark r ≡ true
          mark = s.marked r X some

          unissued : has_issue (r ∷ X) ≡ false
          unissued = (or_parts (has_issue s.S) (has_issue (r ∷ X)) (sym (has_issue-append s.S (r ∷ X)) ∙ ap has_issue (sym (s.is ∙ ap (λ R. s.S ++ R) some)) ∙ last)).1

          size : length front ≡ length A + suc (length s.S)
          size = length-append A (Issue n w ∷ s.S)

          later : length A + 1 + length s.S + 1 < k → is_place (length A + 1) (live_at J k) ≡ false
          later lt =
              let j : ℕ = k - 1 - (length front + 1) in
              let e : k - 1 ≡ length front + 1 + j = omega (arith, lt, size) in
              let taken : take (k - 1) J ≡ front ++ r ∷ take j X = ap₂ take e cut_at ∙ take-front front X r j in
              let parts = or_parts (is_issue r) (has_issue X) unissued in
              let none : has_issue (r ∷ take j X) ≡ false = rw parts.0 (unissued-take X j parts.1) in
              ap (λ l. is_place (length A + 1) (live_of l)) taken ∙ ap (is_place (length A + 1)) (ended front r (take j X) mark none)

          next : k ≤ length A + 1 + length s.S + 1 → is_place (length A + 1) (live_at J k) ≡ false
          next le =
              let e : k ≡ length front + 1 = omega (arith, le, past, size) in
              let both : Some r ≡ Some (Order Present counts) = sym (ap₂ record_at cut_at e ∙ there front r X) ∙ at in
              let same : r ≡ Order Present counts = cc in
              absurd (true≢false (sym mark ∙ ap is_mark same))

  -- so what a motion put out in it is what it put out on the numbers of the segment
  each : (units : List NoteKind) (c : List ℕ) (m : Motion) → IsAsked J m → shown_by units J (length A + 1) c m ≡ across units c (length A + 1) (length s.S) m
  each units c (Moved k Stack m d) asked = refl
  each units c (Moved k Reject m d) asked = refl
  each units c (Moved k Retract m d) asked = refl
  each units c (Taken x) asked = refl
  each units c (Loaded u x) asked = refl
  each units c (Moved k Present m d) asked = ap (λ b. if b then value_from units 0 m.0 c else 0) (⊎_elim low high (cases_lt (length A + 1) k))
    where
      high : k ≤ length A + 1 → is_place (length A + 1) (live_at J k) ≡ in_span (length A + 1) (length s.S) k
      high le = before k le ∙ sym (ap (λ t. t && nat_le k (length A + 1 + length s.S)) (le-ltb (length A + 1) k le))

      low : length A + 1 < k → is_place (length A + 1) (live_at J k) ≡ in_span (length A + 1) (length s.S) k
      low lt = ⊎_elim
          (λ past. outside k asked.counts past asked.ordered ∙ sym (rw (lt-ltb (length A + 1) k lt) (lt-leb k (length A + 1 + length s.S) past)))
          (λ le. inside k lt le ∙ sym (and_from (nat_lt (length A + 1) k) (nat_le k (length A + 1 + length s.S)) (lt-ltb (length A + 1) k lt) (le-leb k (length A + 1 + length s.S) le)))
          (cases_lt (length A + 1 + length s.S) k)

-- what was put out since the last Issue is what was presented in its segment, where each order to present has its Done
pub shown-is : (units : List NoteKind) (J : List Rec) (L : List Motion) (c : List ℕ) (n : ℕ) → Agrees J L → has_issue J ≡ true → first_open n (segment J) ≡ None → shown units J L (last_issue J) c ≡ presented_last units J c
shown-is units J L c n a some settled =
    let k = cut J some in
    let s = split k.behind in
    let place = ap last_issue k.is ∙ last_issue-cut k.front k.number k.word k.behind k.last in
    let seg : segment J ≡ s.S = ap segment k.is ∙ ap (before_first is_mark) (behind_issue-cut k.front k.number k.word k.behind k.last) ∙ s.front in
    let l = length-append k.front (Issue k.number k.word ∷ []) in
    let low : length (k.front ++ Issue k.number k.word ∷ []) ≡ length k.front + 1 = omega (arith, l) in
    let same = sum-same (shown_by units J (length k.front + 1) c) (across units c (length k.front + 1) (length s.S)) (IsAsked J) (each J k.front k.number k.word k.behind k.is k.last s units c) L a.asked in
    let joined : J ≡ (k.front ++ Issue k.number k.word ∷ []) ++ (s.S ++ s.R) = k.is ∙ ap (λ B. k.front ++ Issue k.number k.word ∷ B) s.is ∙ sym (append_assoc k.front (Issue k.number k.word ∷ []) (s.S ++ s.R)) in
    let total = share units c J (k.front ++ Issue k.number k.word ∷ []) s.S s.R L n joined a s.unmarked (ap (first_open n) (sym seg) ∙ settled) in
    ap (λ q. shown units J L q c) place ∙ same ∙ ap (λ q. sum_by (across units c q (length s.S)) L) (sym low) ∙ total ∙ ap (λ S. presented_in units S c) (sym seg)
