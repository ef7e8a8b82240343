-- Where the last Issue stands, and where its segment ends.
use Rattle.std.proofs.Common.{◌≡◌, ℕ, zero, suc, ◌+◌, ◌-◌, ◌<◌, ◌≤◌, Bool, true, false, ◌||◌, List, [], ◌∷◌, ◌++◌, length, take, drop, get_or, None, Some, refl, sym, ◌∙◌, ap, ap₂, arith, drop-cons, ⊎_elim}
use Rattle.std.specs.Prelude.{if◌then◌else◌}
use Rattle.std.specs.List.{before_first, list_any}
use Rattle.std.proofs.lemmas.Bool.{cases_Bool, cases_lt}
use Rattle.std.proofs.lemmas.List.{get_or_default}
use Rattle.xfs_journal.specs.declared.record.Rec.{Rec}
use Rattle.xfs_journal.specs.declared.record.Rec.TheVariants.{Issue}
use Rattle.xfs_journal.specs.Journal.{is_issue, is_mark}
use Rattle.xfs_guard.specs.Segment.{has_issue, last_issue, behind_issue, carried, issue_of}
use Rattle.xfs_guard.proofs.SegmentLaws.{before-cons, cut, last_issue-cut, last_issue-none, behind_issue-cut, issue_of-cut}
use Rattle.xfs_evidence.specs.Evidence.{is_unsettled, first_open}

pub drop-here : {X : Type 0} (xs : List X) (i : ℕ) (d : X) → i < length xs → drop i xs ≡ get_or xs i d ∷ drop (i + 1) xs
drop-here xs i d lt = let e : suc i ≡ i + 1 = omega arith in drop-cons xs i d lt ∙ ap (λ n. get_or xs i d ∷ drop n xs) e

-- an Issue is there
there : (records : List Rec) (m : ℕ) (d : Rec) → m < length records → is_issue (get_or records m d) ≡ true → has_issue records ≡ true
there [] m d lt is = absurd (omega arith)
there (r ∷ rs) zero d lt is = rw is refl
there (r ∷ rs) (suc m) d lt is = rw (there rs m d (omega arith) is) (right (is_issue r))
  where
    right : (b : Bool) → b || true ≡ true
    right true = refl
    right false = refl

-- the record in front of records without an Issue is the last one
pub last-here : (records : List Rec) (m : ℕ) (d : Rec) → m < length records → is_issue (get_or records m d) ≡ true → has_issue (drop (m + 1) records) ≡ false → last_issue records ≡ m + 1
last-here [] m d lt is none = absurd (omega arith)
last-here (r ∷ rs) zero d lt is none = rw (none, is) refl
last-here (r ∷ rs) (suc m) d lt is none =
    let e : suc m + 1 ≡ suc (m + 1) = omega arith in
    let ih = last-here rs m d (omega arith) is (rw e at none) in
    rw (there rs m d (omega arith) is) (omega (arith, ih))

-- a record that is none
none-step : (records : List Rec) (m : ℕ) (d : Rec) → m < length records → is_issue (get_or records m d) ≡ false → has_issue (drop (m + 1) records) ≡ false → has_issue (drop m records) ≡ false
none-step records m d lt is none = rw (drop-here records m d lt, is) none

pub none-back : (records : List Rec) (n : ℕ) (d : Rec) → 0 < n → n ≤ length records → is_issue (get_or records (n - 1) d) ≡ false → has_issue (drop n records) ≡ false → has_issue (drop (n - 1) records) ≡ false
none-back records n d some within is none = let e : n - 1 + 1 ≡ n = omega (arith, some) in none-step records (n - 1) d (omega (arith, some, within)) is (rw e none)

-- no mark stands in front of the first
pub before-any : (records : List Rec) → list_any is_mark (before_first is_mark records) ≡ false
before-any [] = refl
before-any (r ∷ rs) = ap (list_any is_mark) (before-cons r rs) ∙ by r rs (is_mark r) refl (before-any rs)
  where
    by : (r : Rec) (rs : List Rec) (b : Bool) → is_mark r ≡ b → list_any is_mark (before_first is_mark rs) ≡ false → list_any is_mark (if is_mark r then [] else (r ∷ before_first is_mark rs)) ≡ false
    by r rs true is rest = rw is refl
    by r rs false is rest = rw is (rw is rest)

-- the record is the first order to present without a Done, or it isn't
pub open-here : (number : ℕ) (records : List Rec) (i : ℕ) (d : Rec) → i < length records → is_unsettled (get_or records i d) (drop (i + 1) records) ≡ true → first_open number (drop i records) ≡ Some number
open-here number records i d lt is = ap (first_open number) (drop-here records i d lt) ∙ rw is refl

pub open-on : (number : ℕ) (records : List Rec) (i : ℕ) (d : Rec) → i < length records → is_unsettled (get_or records i d) (drop (i + 1) records) ≡ false → first_open number (drop i records) ≡ first_open (number + 1) (drop (i + 1) records)
open-on number records i d lt is = ap (first_open number) (drop-here records i d lt) ∙ rw is refl

pub last-back : (records : List Rec) (n : ℕ) (d : Rec) → 0 < n → n ≤ length records → is_issue (get_or records (n - 1) d) ≡ true → has_issue (drop n records) ≡ false → last_issue records ≡ n
last-back records n d some within is none =
    let e : n - 1 + 1 ≡ n = omega (arith, some) in
    last-here records (n - 1) d (omega (arith, some, within)) is (rw e none) ∙ e

-- one more record before here is no mark
pub unmarked-more : (records : List Rec) (i : ℕ) (d : Rec) → is_mark (get_or records i d) ≡ false → i < length records → ((k : ℕ) (x : Rec) → k < i → is_mark (get_or records k x) ≡ false) → (k : ℕ) (x : Rec) → k < i + 1 → is_mark (get_or records k x) ≡ false
unmarked-more records i d is lt before k x below = ⊎_elim
    (λ less. before k x less)
    (λ past. (let e : k ≡ i = omega (arith, past, below) in rw e (ap is_mark (get_or_default records i x d lt) ∙ is)))
    (cases_lt k i)

-- a list whose last Issue stands nowhere has none
pub has-none : (records : List Rec) → last_issue records ≡ 0 → has_issue records ≡ false
has-none records nowhere = ⊎_elim
    (λ some. (let k = cut records some in let e = ap last_issue k.is ∙ last_issue-cut k.front k.number k.word k.behind k.last in absurd (omega (arith, e, nowhere))))
    (λ none. none)
    (cases_Bool (has_issue records))

pub has-some : (records : List Rec) → (last_issue records ≡ 0 → ⊥) → has_issue records ≡ true
has-some records some = ⊎_elim (λ there. there) (λ none. absurd (some (last_issue-none records none))) (cases_Bool (has_issue records))

drop-cut : (front : List Rec) (r : Rec) (behind : List Rec) → drop (length front + 1) (front ++ r ∷ behind) ≡ behind
drop-cut [] r behind = refl
drop-cut (f ∷ front) r behind = let e : suc (length front) + 1 ≡ suc (length front + 1) = omega arith in rw e (drop-cut front r behind)

-- the records behind the last Issue
pub behind-is : (records : List Rec) → has_issue records ≡ true → drop (last_issue records) records ≡ behind_issue records
behind-is records some =
    let k = cut records some in
    let place = ap last_issue k.is ∙ last_issue-cut k.front k.number k.word k.behind k.last in
    ap (λ n. drop n records) place ∙ ap (drop (length k.front + 1)) k.is ∙ drop-cut k.front (Issue k.number k.word) k.behind ∙ sym (ap behind_issue k.is ∙ behind_issue-cut k.front k.number k.word k.behind k.last)

get-cut : (front : List Rec) (r : Rec) (behind : List Rec) (d : Rec) → get_or (take (length front + 1) (front ++ r ∷ behind)) (length front) d ≡ r
get-cut [] r behind d = refl
get-cut (f ∷ front) r behind d = let e : suc (length front) + 1 ≡ suc (length front + 1) = omega arith in rw e (get-cut front r behind d)

-- the last Issue itself
pub issue-there : (records : List Rec) (d : Rec) → has_issue records ≡ true → is_issue (get_or (take (last_issue records) records) (last_issue records - 1) d) ≡ true
issue-there records d some =
    let k = cut records some in
    let place = ap last_issue k.is ∙ last_issue-cut k.front k.number k.word k.behind k.last in
    let back : last_issue records - 1 ≡ length k.front = omega (arith, place) in
    ap is_issue (ap₂ (λ n m. get_or (take n records) m d) place back ∙ ap (λ l. get_or (take (length k.front + 1) l) (length k.front) d) k.is ∙ get-cut k.front (Issue k.number k.word) k.behind d)

pub issue-carries : (records : List Rec) (d : Rec) (number : ℕ) → has_issue records ≡ true → carried (Some (get_or (take (last_issue records) records) (last_issue records - 1) d)) ≡ Some number → issue_of records ≡ Some number
issue-carries records d number some carries =
    let k = cut records some in
    let place = ap last_issue k.is ∙ last_issue-cut k.front k.number k.word k.behind k.last in
    let back : last_issue records - 1 ≡ length k.front = omega (arith, place) in
    let there : get_or (take (last_issue records) records) (last_issue records - 1) d ≡ Issue k.number k.word =
    ap₂ (λ n m. get_or (take n records) m d) place back ∙ ap (λ l. get_or (take (length k.front + 1) l) (length k.front) d) k.is ∙ get-cut k.front (Issue k.number k.word) k.behind d in
    ap issue_of k.is ∙ issue_of-cut k.front k.number k.word k.behind k.last ∙ sym (ap (λ r. carried (Some r)) there) ∙ carries

-- an order that is open in a list is so whatever its number
pub open-none : (n m : ℕ) (records : List Rec) → first_open n records ≡ None → first_open m records ≡ None
open-none n m [] none = refl
open-none n m (r ∷ rs) none = by (is_unsettled r rs) none (open-none (n + 1) (m + 1) rs)
  where
    by : (b : Bool) → (if b then Some n else first_open (n + 1) rs) ≡ None → (first_open (n + 1) rs ≡ None → first_open (m + 1) rs ≡ None) → (if b then Some m else first_open (m + 1) rs) ≡ None
    by true e rest = cc
    by false e rest = rest e
