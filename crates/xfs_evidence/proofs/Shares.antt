-- What a mechanism put out in the segment of the last Issue is what its Done records tell.
use Rattle.std.proofs.Common.{◌≡◌, ◌≢◌, ◌⊎◌, ⊎_elim, inl, inr, ℕ, zero, suc, ◌+◌, ◌<◌, ◌≤◌, ◌==◌, Bool, true, false, not, ◌&&◌, List, [], ◌∷◌, ◌++◌, length, None, Some, refl, sym, ◌∙◌, ap, ap₂, arith, true≢false, length-append, append_assoc, add-one}
use Rattle.std.specs.Prelude.{if◌then◌else◌, nat_le, nat_lt, slice_get, fold}
use Rattle.std.specs.declared.option.Option.{Option}
use Rattle.std.specs.List.{AllByRecursion, Contains, sum_by, list_any}
use Rattle.std.proofs.lemmas.Bool.{cases_lt, cases_eq, and_from, or_parts, le-leb, lt-leb, lt-ltb, le-ltb, ltb-true, eq-eqb, ne_eqb, cases_order}
use Rattle.std.proofs.lemmas.List.Sums.{sum_by-cons}
use Rattle.xfs_base.specs.Money.{value_from}
use Rattle.xfs_base.specs.declared.counts.Counts.{Counts}
use Rattle.xfs_base.specs.declared.counts.Kind.{Kind}
use Rattle.xfs_base.specs.declared.counts.Kind.TheVariants.{Stack, Present, Reject, Retract}
use Rattle.xfs_base.specs.declared.money.NoteKind.{NoteKind}
use Rattle.xfs_mech.specs.declared.motion.Motion.{Motion}
use Rattle.xfs_mech.specs.declared.motion.Motion.TheVariants.{Moved, Taken, Loaded}
use Rattle.xfs_journal.specs.declared.record.Rec.{Rec}
use Rattle.xfs_journal.specs.declared.record.Rec.TheVariants.{Issue, Clear, Expire, Boot, Start, Bind, Order, Done, Load}
use Rattle.xfs_journal.specs.Journal.{is_mark, record_at}
use Rattle.xfs_guard.specs.Agrees.{Agrees, IsAsked, RisesFrom}
use Rattle.xfs_guard.specs.Presented.{paid_after, worth_after, presented_in}
use Rattle.xfs_evidence.specs.Evidence.{is_present, begins_done, is_unsettled, first_open}
use Rattle.xfs_evidence.specs.Sums.{added}
use Rattle.xfs_evidence.proofs.Valued.{worth-added}

-- what a motion put out on the order of this number, and on those of numbers in a span
abbrev on : List NoteKind → List ℕ → ℕ → Motion → ℕ
on units c k (Moved number Present moved diverted) = if number == k then value_from units 0 moved.0 c else 0
on units c k m = 0

abbrev pub in_span : ℕ → ℕ → ℕ → Bool
in_span low many number = nat_lt low number && nat_le number (low + many)

abbrev pub across : List NoteKind → List ℕ → ℕ → ℕ → Motion → ℕ
across units c low many (Moved number Present moved diverted) = if in_span low many number then value_from units 0 moved.0 c else 0
across units c low many m = 0

-- sums of sums
sum-both : {X : Type 0} (f g h : X → ℕ) → ((x : X) → f x ≡ g x + h x) → (xs : List X) → sum_by f xs ≡ sum_by g xs + sum_by h xs
sum-both f g h e [] = refl
sum-both f g h e (x ∷ xs) =
    let a = sum_by-cons f x xs in
    let b = sum_by-cons g x xs in
    let d = sum_by-cons h x xs in
    let here = e x in
    let ih = sum-both f g h e xs in
    omega (arith, a, b, d, here, ih)

sum-none : {X : Type 0} (f : X → ℕ) (P : X → Type 0) → ((x : X) → P x → f x ≡ 0) → (xs : List X) → AllByRecursion P xs → sum_by f xs ≡ 0
sum-none f P e [] all = refl
sum-none f P e (x ∷ xs) all = let a = sum_by-cons f x xs in let here = e x all.0 in let ih = sum-none f P e xs all.1 in omega (arith, a, here, ih)

pub sum-same : {X : Type 0} (f g : X → ℕ) (P : X → Type 0) → ((x : X) → P x → f x ≡ g x) → (xs : List X) → AllByRecursion P xs → sum_by f xs ≡ sum_by g xs
sum-same f g P e [] all = refl
sum-same f g P e (x ∷ xs) all = let a = sum_by-cons f x xs in let b = sum_by-cons g x xs in let here = e x all.0 in let ih = sum-same f g P e xs all.1 in omega (arith, a, b, here, ih)

-- a span is its first number and the rest
span-cut : (low many number : ℕ) → (number ≡ low + 1) ⊎ (number ≢ low + 1) → (v : ℕ) → (if in_span low (suc many) number then v else 0) ≡ (if number == (low + 1) then v else 0) + (if in_span (low + 1) many number then v else 0)
span-cut low many number (inl is) v =
    let a : in_span low (suc many) number ≡ true = and_from (nat_lt low number) (nat_le number (low + suc many)) (lt-ltb low number (omega (arith, is))) (le-leb number (low + suc many) (omega (arith, is))) in
    let b : (number == (low + 1)) ≡ true = eq-eqb number (low + 1) is in
    let d : in_span (low + 1) many number ≡ false = ap (λ t. t && nat_le number (low + 1 + many)) (le-ltb (low + 1) number (omega (arith, is))) in
    rw (a, b, d) (omega arith)
span-cut low many number (inr other) v =
    let b : (number == (low + 1)) ≡ false = ne_eqb number (low + 1) other in
    rw b (⊎_elim inside outside (cases_lt (low + 1) number))
  where
    inside : low + 1 < number → (if in_span low (suc many) number then v else 0) ≡ 0 + (if in_span (low + 1) many number then v else 0)
    inside lt =
        let a = lt-ltb low number (omega (arith, lt)) in
        let d = lt-ltb (low + 1) number lt in
        let e : low + suc many ≡ low + 1 + many = omega arith in
        rw (a, d, e) (omega arith)

    outside : number ≤ low + 1 → (if in_span low (suc many) number then v else 0) ≡ 0 + (if in_span (low + 1) many number then v else 0)
    outside le =
        let a = le-ltb low number (apart le other) in
        let d = le-ltb (low + 1) number le in
        rw (a, d) refl
      where
        apart : number ≤ low + 1 → number ≢ low + 1 → number ≤ low
        apart le other = ⊎_elim (λ same. absurd (other same)) (λ order. ⊎_elim (λ less. omega (arith, less)) (λ more. absurd (omega (arith, more, le))) order) (cases_order number (low + 1))

across-cut : (units : List NoteKind) (c : List ℕ) (low many : ℕ) (m : Motion) → across units c low (suc many) m ≡ on units c (low + 1) m + across units c (low + 1) many m
across-cut units c low many (Moved n Present m d) = span-cut low many n (cases_eq n (low + 1)) (value_from units 0 m.0 c)
across-cut units c low many (Moved n Stack m d) = refl
across-cut units c low many (Moved n Reject m d) = refl
across-cut units c low many (Moved n Retract m d) = refl
across-cut units c low many (Taken x) = refl
across-cut units c low many (Loaded u x) = refl

-- an empty span
across-none : (units : List NoteKind) (c : List ℕ) (low : ℕ) (m : Motion) → across units c low 0 m ≡ 0
across-none units c low (Moved n Present m d) = by (nat_lt low n) refl
  where
    by : (b : Bool) → nat_lt low n ≡ b → (if b && nat_le n (low + 0) then value_from units 0 m.0 c else 0) ≡ 0
    by false e = refl
    by true e = let lt = ltb-true low n e in rw (lt-leb n (low + 0) (omega (arith, lt))) refl
across-none units c low (Moved n Stack m d) = refl
across-none units c low (Moved n Reject m d) = refl
across-none units c low (Moved n Retract m d) = refl
across-none units c low (Taken x) = refl
across-none units c low (Loaded u x) = refl

-- motions whose numbers rise past a number have none of it
past-none : (units : List NoteKind) (c : List ℕ) (low k : ℕ) (motions : List Motion) → k ≤ low → RisesFrom low motions → sum_by (on units c k) motions ≡ 0
past-none units c low k [] le rises = refl
past-none units c low k (Moved n Present m d ∷ ms) le rises =
    let a = sum_by-cons (on units c k) (Moved n Present m d) ms in
    let here : on units c k (Moved n Present m d) ≡ 0 = rw (ne_eqb n k (λ e. absurd (omega (arith, e, le, rises.0)))) refl in
    let ih = past-none units c n k ms (omega (arith, le, rises.0)) rises.1 in
    omega (arith, a, here, ih)
past-none units c low k (Moved n Stack m d ∷ ms) le rises = let a = sum_by-cons (on units c k) (Moved n Stack m d) ms in let ih = past-none units c n k ms (omega (arith, le, rises.0)) rises.1 in omega (arith, a, ih)
past-none units c low k (Moved n Reject m d ∷ ms) le rises = let a = sum_by-cons (on units c k) (Moved n Reject m d) ms in let ih = past-none units c n k ms (omega (arith, le, rises.0)) rises.1 in omega (arith, a, ih)
past-none units c low k (Moved n Retract m d ∷ ms) le rises = let a = sum_by-cons (on units c k) (Moved n Retract m d) ms in let ih = past-none units c n k ms (omega (arith, le, rises.0)) rises.1 in omega (arith, a, ih)
past-none units c low k (Taken x ∷ ms) le rises = let a = sum_by-cons (on units c k) (Taken x) ms in let ih = past-none units c low k ms le rises in omega (arith, a, ih)
past-none units c low k (Loaded u x ∷ ms) le rises = let a = sum_by-cons (on units c k) (Loaded u x) ms in let ih = past-none units c low k ms le rises in omega (arith, a, ih)

-- a motion stands past the number that the others rise from
there-past : (low k : ℕ) (moved diverted : Counts) (motions : List Motion) → RisesFrom low motions → Contains motions (Moved k Present moved diverted) → low < k
there-past low k moved diverted [] rises there = absurd (omega (arith, there.1))
there-past low k moved diverted (x ∷ ms) rises (zero, lt, is) = first x rises is
  where
    first : (x : Motion) → RisesFrom low (x ∷ ms) → x ≡ Moved k Present moved diverted → low < k
    first (Moved n kind m d) rises is = let same : n ≡ k = cc in omega (arith, same, rises.0)
    first (Taken c) rises is = cc
    first (Loaded u n) rises is = cc
there-past low k moved diverted (Moved n kind m d ∷ ms) rises (suc i, lt, is) = let ih = there-past n k moved diverted ms rises.1 (i, omega (arith, lt), is) in omega (arith, ih, rises.0)
there-past low k moved diverted (Taken c ∷ ms) rises (suc i, lt, is) = there-past low k moved diverted ms rises (i, omega (arith, lt), is)
there-past low k moved diverted (Loaded u n ∷ ms) rises (suc i, lt, is) = there-past low k moved diverted ms rises (i, omega (arith, lt), is)

other-first : (units : List NoteKind) (c : List ℕ) (k n : ℕ) (kind : Kind) (m d : Counts) → n < k → on units c k (Moved n kind m d) ≡ 0
other-first units c k n Present m d lt = rw (ne_eqb n k (λ e. absurd (omega (arith, e, lt)))) refl
other-first units c k n Stack m d lt = refl
other-first units c k n Reject m d lt = refl
other-first units c k n Retract m d lt = refl

-- a motion of a number that rises in a list is the only one with it
pub on-one : (units : List NoteKind) (c : List ℕ) (low k : ℕ) (moved diverted : Counts) (motions : List Motion) → RisesFrom low motions → Contains motions (Moved k Present moved diverted) → sum_by (on units c k) motions ≡ value_from units 0 moved.0 c
on-one units c low k moved diverted [] rises there = absurd (omega (arith, there.1))
on-one units c low k moved diverted (x ∷ ms) rises (zero, lt, is) = first x rises is
  where
    first : (x : Motion) → RisesFrom low (x ∷ ms) → x ≡ Moved k Present moved diverted → sum_by (on units c k) (x ∷ ms) ≡ value_from units 0 moved.0 c
    first (Moved n kind m d) rises is =
        let same : n ≡ k = cc in
        let a = sum_by-cons (on units c k) (Moved n kind m d) ms in
        let here : on units c k (Moved n kind m d) ≡ value_from units 0 moved.0 c = ap (on units c k) is ∙ rw (eq-eqb k k refl) refl in
        let rest = past-none units c n k ms (omega (arith, same)) rises.1 in
        omega (arith, a, here, rest)
    first (Taken y) rises is = cc
    first (Loaded u n) rises is = cc
on-one units c low k moved diverted (Moved n kind m d ∷ ms) rises (suc i, lt, is) =
    let there : Contains ms (Moved k Present moved diverted) = (i, omega (arith, lt), is) in
    let past = there-past n k moved diverted ms rises.1 there in
    let a = sum_by-cons (on units c k) (Moved n kind m d) ms in
    let here = other-first units c k n kind m d past in
    let ih = on-one units c n k moved diverted ms rises.1 there in
    omega (arith, a, here, ih)
on-one units c low k moved diverted (Taken y ∷ ms) rises (suc i, lt, is) = let a = sum_by-cons (on units c k) (Taken y) ms in let ih = on-one units c low k moved diverted ms rises (i, omega (arith, lt), is) in omega (arith, a, ih)
on-one units c low k moved diverted (Loaded u n ∷ ms) rises (suc i, lt, is) = let a = sum_by-cons (on units c k) (Loaded u n) ms in let ih = on-one units c low k moved diverted ms rises (i, omega (arith, lt), is) in omega (arith, a, ih)

sum-nothing : {X : Type 0} (f : X → ℕ) → ((x : X) → f x ≡ 0) → (xs : List X) → sum_by f xs ≡ 0
sum-nothing f e [] = refl
sum-nothing f e (x ∷ xs) = let a = sum_by-cons f x xs in let here = e x in let ih = sum-nothing f e xs in omega (arith, a, here, ih)

-- what was presented before adds to it, where no mark stands
offset : (units : List NoteKind) (c : List ℕ) (l : Option Rec) (a w : ℕ) (xs : List Rec) → list_any is_mark xs ≡ false
    → (fold (paid_after units c) (record { last = l; worth = a + w }) xs).worth ≡ a + (fold (paid_after units c) (record { last = l; worth = w }) xs).worth
offset units c l a w [] none = refl
offset units c l a w (x ∷ xs) none =
    let parts = or_parts (is_mark x) (list_any is_mark xs) none in
    let more = worth-added units c (record { last = l; worth = a + w }) x parts.0 in
    let less = worth-added units c (record { last = l; worth = w }) x parts.0 in
    let same : worth_after units c (record { last = l; worth = a + w }) x ≡ a + worth_after units c (record { last = l; worth = w }) x = omega (arith, more, less) in
    ap (λ n. (fold (paid_after units c) (record { last = Some x; worth = n }) xs).worth) same ∙ offset units c (Some x) a (worth_after units c (record { last = l; worth = w }) x) xs parts.1

-- what the first of records adds, where an order to present stands before it or not
abbrev added_first : List NoteKind → List ℕ → Bool → List Rec → ℕ
added_first units c ordered [] = 0
added_first units c ordered (x ∷ xs) = added units ordered x c

none-added : (units : List NoteKind) (x : Rec) (c : List ℕ) → added units false x c ≡ 0
none-added units (Issue n w) c = refl
none-added units Clear c = refl
none-added units Expire c = refl
none-added units (Boot p) c = refl
none-added units (Start i p) c = refl
none-added units (Bind t) c = refl
none-added units (Order k x) c = refl
none-added units (Done m d) c = refl
none-added units (Load i x) c = refl

none-first : (units : List NoteKind) (c : List ℕ) (xs : List Rec) → added_first units c false xs ≡ 0
none-first units c [] = refl
none-first units c (x ∷ xs) = none-added units x c

presented-cons : (units : List NoteKind) (c : List ℕ) (r : Rec) (S : List Rec) → list_any is_mark (r ∷ S) ≡ false → presented_in units (r ∷ S) c ≡ added_first units c (is_present r) S + presented_in units S c
presented-cons units c r S none = ap (λ n. (fold (paid_after units c) (record { last = Some r; worth = n }) S).worth) begun ∙ rest S parts.1
  where
    parts : (is_mark r ≡ false) × (list_any is_mark S ≡ false)
    parts = or_parts (is_mark r) (list_any is_mark S) none

    begun : worth_after units c (record { last = None; worth = 0 }) r ≡ 0
    begun = (let e = worth-added units c (record { last = None; worth = 0 }) r parts.0 in let z = none-added units r c in omega (arith, e, z))

    rest : (xs : List Rec) → list_any is_mark xs ≡ false → (fold (paid_after units c) (record { last = Some r; worth = 0 }) xs).worth ≡ added_first units c (is_present r) xs + presented_in units xs c
    rest [] none = refl
    rest (x ∷ xs) none =
        let p = or_parts (is_mark x) (list_any is_mark xs) none in
        let one = worth-added units c (record { last = Some r; worth = 0 }) x p.0 in
        let other = worth-added units c (record { last = None; worth = 0 }) x p.0 in
        let z = none-added units x c in
        let a : ℕ = added units (is_present r) x c in
        let first : worth_after units c (record { last = Some r; worth = 0 }) x ≡ a + worth_after units c (record { last = None; worth = 0 }) x = omega (arith, one, other, z) in
        ap (λ n. (fold (paid_after units c) (record { last = Some x; worth = n }) xs).worth) first ∙ offset units c (Some x) a (worth_after units c (record { last = None; worth = 0 }) x) xs p.1

pub there : (front : List Rec) (r : Rec) (behind : List Rec) → record_at (front ++ r ∷ behind) (length front + 1) ≡ Some r
there front r behind = rw add-one (at front)
  where
    at : (front : List Rec) → slice_get (front ++ r ∷ behind) (length front) ≡ Some r
    at [] = refl
    at (f ∷ front) = at front

-- a record that is no order to present put nothing out
on-none : (units : List NoteKind) (c : List ℕ) (J : List Rec) (k : ℕ) (r : Rec) (m : Motion) → record_at J k ≡ Some r → is_present r ≡ false → IsAsked J m → on units c k m ≡ 0
on-none units c J k r (Moved n Stack m d) at none asked = refl
on-none units c J k r (Moved n Reject m d) at none asked = refl
on-none units c J k r (Moved n Retract m d) at none asked = refl
on-none units c J k r (Taken x) at none asked = refl
on-none units c J k r (Loaded u x) at none asked = refl
on-none units c J k r (Moved n Present m d) at none asked = by (cases_eq n k)
  where
    by : (n ≡ k) ⊎ (n ≢ k) → on units c k (Moved n Present m d) ≡ 0
    by (inr other) = rw (ne_eqb n k other) refl
    by (inl same) =
        let both : Some r ≡ Some (Order Present asked.counts) = sym at ∙ ap (record_at J) (sym same) ∙ asked.ordered in
        let is : r ≡ Order Present asked.counts = cc in
        absurd (true≢false (sym (ap is_present is) ∙ none))

-- an order to present
ordered : (r : Rec) → is_present r ≡ true → (counts : Counts) × (r ≡ Order Present counts)
ordered (Order Present x) e = (x, refl)
ordered (Order Stack x) e = absurd (true≢false (sym e))
ordered (Order Reject x) e = absurd (true≢false (sym e))
ordered (Order Retract x) e = absurd (true≢false (sym e))
ordered (Issue n w) e = absurd (true≢false (sym e))
ordered Clear e = absurd (true≢false (sym e))
ordered Expire e = absurd (true≢false (sym e))
ordered (Boot p) e = absurd (true≢false (sym e))
ordered (Start i p) e = absurd (true≢false (sym e))
ordered (Bind t) e = absurd (true≢false (sym e))
ordered (Done m d) e = absurd (true≢false (sym e))
ordered (Load i x) e = absurd (true≢false (sym e))

-- what was put out on the first of records
on-first : (units : List NoteKind) (c : List ℕ) (J front : List Rec) (r : Rec) (S R : List Rec) (L : List Motion) → J ≡ front ++ r ∷ (S ++ R) → Agrees J L → is_unsettled r S ≡ false → sum_by (on units c (length front + 1)) L ≡ added_first units c (is_present r) S
on-first units c J front r S R L is a settled = by (is_present r) refl S is settled
  where
    here : record_at J (length front + 1) ≡ Some r
    here = ap (λ l. record_at l (length front + 1)) is ∙ there front r (S ++ R)

    by : (b : Bool) → is_present r ≡ b → (S : List Rec) → J ≡ front ++ r ∷ (S ++ R) → (is_present r && not (begins_done S)) ≡ false → sum_by (on units c (length front + 1)) L ≡ added_first units c b S
    by false none S is settled = sum-none (on units c (length front + 1)) (IsAsked J) (λ m asked. on-none units c J (length front + 1) r m here none asked) L a.asked ∙ sym (none-first units c S)
    by true some [] is settled = absurd (true≢false (sym (ap (λ t. t && true) some) ∙ settled))
    by true some (Done m d ∷ rest) is settled =
        let o = ordered r some in
        let n : length front + 1 + 1 ≡ length (front ++ r ∷ []) + 1 = (let l = length-append front (r ∷ []) in omega (arith, l)) in
        let next : record_at J (length front + 1 + 1) ≡ Some (Done m d) = ap₂ record_at (is ∙ sym (append_assoc front (r ∷ []) (Done m d ∷ (rest ++ R)))) n ∙ there (front ++ r ∷ []) (Done m d) (rest ++ R) in
        on-one units c 0 (length front + 1) m d L a.rising (a.done (length front + 1) Present o.0 m d (here ∙ ap Some o.1) next)
    by true some (Issue i w ∷ rest) is settled = absurd (true≢false (sym (ap (λ t. t && true) some) ∙ settled))
    by true some (Clear ∷ rest) is settled = absurd (true≢false (sym (ap (λ t. t && true) some) ∙ settled))
    by true some (Expire ∷ rest) is settled = absurd (true≢false (sym (ap (λ t. t && true) some) ∙ settled))
    by true some (Boot p ∷ rest) is settled = absurd (true≢false (sym (ap (λ t. t && true) some) ∙ settled))
    by true some (Start i p ∷ rest) is settled = absurd (true≢false (sym (ap (λ t. t && true) some) ∙ settled))
    by true some (Bind t ∷ rest) is settled = absurd (true≢false (sym (ap (λ t. t && true) some) ∙ settled))
    by true some (Order k x ∷ rest) is settled = absurd (true≢false (sym (ap (λ t. t && true) some) ∙ settled))
    by true some (Load i x ∷ rest) is settled = absurd (true≢false (sym (ap (λ t. t && true) some) ∙ settled))

first-settled : (n : ℕ) (r : Rec) (S : List Rec) → first_open n (r ∷ S) ≡ None → (is_unsettled r S ≡ false) × (first_open (n + 1) S ≡ None)
first-settled n r S none = by (is_unsettled r S) refl none
  where
    by : (b : Bool) → is_unsettled r S ≡ b → (if b then Some n else first_open (n + 1) S) ≡ None → (is_unsettled r S ≡ false) × (first_open (n + 1) S ≡ None)
    by true e none = cc
    by false e none = (e, none)

-- what was put out on the orders of settled records without a mark is what was presented
pub share : (units : List NoteKind) (c : List ℕ) (J front S R : List Rec) (L : List Motion) (n : ℕ) → J ≡ front ++ (S ++ R) → Agrees J L → list_any is_mark S ≡ false → first_open n S ≡ None
    → sum_by (across units c (length front) (length S)) L ≡ presented_in units S c
share units c J front [] R L n is a none settled = sum-nothing (across units c (length front) 0) (across-none units c (length front)) L
share units c J front (r ∷ S) R L n is a none settled =
    let s = first-settled n r S settled in
    let parts = or_parts (is_mark r) (list_any is_mark S) none in
    let l = length-append front (r ∷ []) in
    let low : length (front ++ r ∷ []) ≡ length front + 1 = omega (arith, l) in
    let cut = sum-both (across units c (length front) (suc (length S))) (on units c (length front + 1)) (across units c (length front + 1) (length S)) (across-cut units c (length front) (length S)) L in
    let first = on-first units c J front r S R L is a s.0 in
    let ih = ap (λ k. sum_by (across units c k (length S)) L) (sym low) ∙ share units c J (front ++ r ∷ []) S R L (n + 1) (is ∙ sym (append_assoc front (r ∷ []) (S ++ R))) a parts.1 s.1 in
    let all = presented-cons units c r S none in
    omega (arith, cut, first, ih, all)
