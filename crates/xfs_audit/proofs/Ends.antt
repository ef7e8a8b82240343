-- The end of a list whose numbers rise.
use Rattle.std.proofs.Common.{◌≡◌, ℕ, zero, suc, ◌+◌, ◌-◌, ◌<◌, ◌≤◌, List, [], ◌∷◌, length, drop, take, length-drop, get_or, Some, arith, refl, sym, ap, ◌∙◌, ◌⊎◌, inl, inr, add-one}
use Rattle.std.proofs.lemmas.List.{take_all}
use Rattle.std.proofs.Math.Seq.{drop-cons}
use Rattle.std.specs.Prelude.{slice_get}
use Rattle.std.proofs.lemmas.Bool.{cases_lt, cases_eq}
use Rattle.std.proofs.lemmas.Option.{slice_get_read}
use Rattle.std.proofs.lemmas.List.Elements.{Contains-append_right}
use Rattle.std.specs.List.{Contains}
use Rattle.xfs_base.specs.declared.counts.Counts.{Counts}
use Rattle.xfs_base.specs.declared.counts.Kind.{Kind}
use Rattle.xfs_mech.specs.declared.motion.Motion.{Motion}
use Rattle.xfs_mech.specs.declared.motion.Motion.TheVariants.{Moved, Taken, Loaded}
use Rattle.xfs_mech.specs.Motions.{NumberIs}
use Rattle.xfs_journal.specs.declared.record.Rec.{Rec}
use Rattle.xfs_journal.specs.declared.record.Rec.TheVariants.{Order, Done}
use Rattle.xfs_journal.specs.Journal.{record_at}
use Rattle.xfs_guard.specs.Agrees.{RisesFrom}
use Rattle.xfs_audit.specs.Told.{BeginsAt, IsEndFrom, IsMovedAsDone}

-- a list that rises from a number rises from a lower one
pub rises-lower : (a b : ℕ) (ms : List Motion) → b ≤ a → RisesFrom a ms → RisesFrom b ms
rises-lower a b [] le r = tt
rises-lower a b (Moved n k m d ∷ ms) le r = (omega (arith, r.0), r.1)
rises-lower a b (Taken c ∷ ms) le r = rises-lower a b ms le r
rises-lower a b (Loaded u c ∷ ms) le r = rises-lower a b ms le r

pub contains-cons : {X : Type 0} (x : X) (xs : List X) (y : X) → Contains (x ∷ xs) y → (x ≡ y) ⊎ Contains xs y
contains-cons x xs y c = at c.0 c.1 c.2
  where
    at : (i : ℕ) → i < length (x ∷ xs) → get_or (x ∷ xs) i y ≡ y → (x ≡ y) ⊎ Contains xs y
    at zero lt e = inl e
    at (suc i) lt e = inr (i, omega arith, e)

pub contains-behind : {X : Type 0} (x : X) (xs : List X) (y : X) → Contains xs y → Contains (x ∷ xs) y
contains-behind x xs y c = Contains-append_right (x ∷ []) xs y c

-- each number of a list that rises is greater than where it begins
pub rises-above : (low : ℕ) (ms : List Motion) (n : ℕ) (k : Kind) (m d : Counts) → RisesFrom low ms → Contains ms (Moved n k m d) → low < n
rises-above low [] n k m d r c = absurd (omega (arith, c.1))
rises-above low (Moved n' k' m' d' ∷ ms) n k m d r c = elim (contains-cons (Moved n' k' m' d') ms (Moved n k m d) c) [
  | inl e ↦ let same : n' ≡ n = cc in omega (arith, r.0, same)
  | inr behind ↦ let above = rises-above n' ms n k m d r.1 behind in omega (arith, r.0, above)
]
rises-above low (Taken t ∷ ms) n k m d r c = elim (contains-cons (Taken t) ms (Moved n k m d) c) [
  | inl e ↦ absurd (cc)
  | inr behind ↦ rises-above low ms n k m d r behind
]
rises-above low (Loaded u t ∷ ms) n k m d r c = elim (contains-cons (Loaded u t) ms (Moved n k m d) c) [
  | inl e ↦ absurd (cc)
  | inr behind ↦ rises-above low ms n k m d r behind
]

-- an entry of a lower number is not the one that is sought
other : (number : ℕ) (x : Motion) (n : ℕ) (k : Kind) (m d : Counts) → NumberIs (λ i. i < number) x → number ≤ n → x ≡ Moved n k m d → ⊥
other number (Moved n' k' m' d') n k m d low le e = let same : n' ≡ n = cc in omega (arith, low, same)
other number (Taken t) n k m d low le e = cc
other number (Loaded u t) n k m d low le e = cc

-- what is behind an entry of a lower number is an end too
pub end-step : (number : ℕ) (all : List Motion) (x : Motion) (ms : List Motion) → IsEndFrom number all (x ∷ ms) → NumberIs (λ n. n < number) x → IsEndFrom number all ms
end-step number all x ms end low = record {
  kept = λ n k m d le c. elim (contains-cons x ms (Moved n k m d) (end.kept n k m d le c)) [
    | inl e ↦ absurd (other number x n k m d low le e)
    | inr behind ↦ behind
  ];
  had = λ m c. end.had m (contains-behind x ms m c);
}

pub rises-step : (x : Motion) (ms : List Motion) → RisesFrom 0 (x ∷ ms) → RisesFrom 0 ms
rises-step (Moved n k m d) ms r = rises-lower n 0 ms (omega arith) r.1
rises-step (Taken c) ms r = r
rises-step (Loaded u c) ms r = r

-- an end begins again behind its first entry, where that has a lower number
pub end-more : (number : ℕ) (all ms : List Motion) (i : ℕ) (d : Motion) → i < length ms → IsEndFrom number all (drop i ms) → RisesFrom 0 (drop i ms) → NumberIs (λ n. n < number) (get_or ms i d)
    → IsEndFrom number all (drop (i + 1) ms) × RisesFrom 0 (drop (i + 1) ms)
end-more number all ms i d lt end rises low =
    let cut : drop i ms ≡ get_or ms i d ∷ drop (i + 1) ms = rw (add-one) (drop-cons ms i d lt) in
    (end-step number all (get_or ms i d) (drop (i + 1) ms) (rw cut at end) low, rises-step (get_or ms i d) (drop (i + 1) ms) (rw cut at rises))

-- the list begins at a number where its first entry isn't below that
pub begins-here : (number : ℕ) (ms : List Motion) (i : ℕ) (d : Motion) → i < length ms → (NumberIs (λ n. n < number) (get_or ms i d) → ⊥) → BeginsAt number (take (length ms - i) (drop i ms))
begins-here number ms i d lt not =
    let whole : take (length ms - i) (drop i ms) ≡ drop i ms = take_all (length ms - i) (drop i ms) (omega (arith, length-drop i ms)) in
    let cut : drop i ms ≡ get_or ms i d ∷ drop (i + 1) ms = rw (add-one) (drop-cons ms i d lt) in
    rw (whole, cut) (of (get_or ms i d) (drop (i + 1) ms) not)
  where
    of : (x : Motion) (rest : List Motion) → (NumberIs (λ n. n < number) x → ⊥) → BeginsAt number (x ∷ rest)
    of (Moved n k m d) rest not = elim (cases_lt n number) [ inl below ↦ absurd (not below) | inr above ↦ above ]
    of (Taken t) rest not = absurd (not tt)
    of (Loaded u t) rest not = absurd (not tt)

-- a list with a first entry
pub first-is : (x : Motion) (ms : List Motion) → Some x ≡ slice_get ms 0 → ms ≡ x ∷ drop 1 ms
first-is x [] e = absurd (cc)
first-is x (y ∷ ms) e = let same : x ≡ y = cc in rw same refl

-- one more order that has its motion
pub told-more : (records : List Rec) (motions : List Motion) (count : ℕ) → IsMovedAsDone records motions count
    → ((kind : Kind) (counts moved diverted : Counts) → record_at records count ≡ Some (Order kind counts) → record_at records (count + 1) ≡ Some (Done moved diverted) → Contains motions (Moved count kind moved diverted))
    → IsMovedAsDone records motions (count + 1)
told-more records motions count told own n kind counts moved diverted le order done = elim (cases_eq n count) [
  | inl here ↦ rw here (own kind counts moved diverted (rw here at order) (rw here at done))
  | inr away ↦ told n kind counts moved diverted (omega arith) order done
]

pub end-later : (a b : ℕ) (all end : List Motion) → a ≤ b → IsEndFrom a all end → IsEndFrom b all end
end-later a b all end le e = record { kept = λ n k m d above c. e.kept n k m d (omega arith) c; had = e.had }

pub end-onto : (a : ℕ) (all mid end : List Motion) → IsEndFrom a all mid → IsEndFrom a mid end → IsEndFrom a all end
end-onto a all mid end e f = record { kept = λ n k m d above c. f.kept n k m d above (e.kept n k m d above c); had = λ m c. e.had m (f.had m c) }

above-first : (n n' : ℕ) (k k' : Kind) (m m' d d' : Counts) (ms : List Motion) → RisesFrom n' ms → n ≤ n' → Contains ms (Moved n k m d) → ⊥
above-first n n' k k' m m' d d' ms r le c = let above = rises-above n' ms n k m d r c in omega arith

-- the first entry alone can have the number where a list begins
pub first-only : (x : Motion) (ms : List Motion) (n : ℕ) (k : Kind) (m d : Counts) → RisesFrom 0 (x ∷ ms) → BeginsAt n (x ∷ ms) → Contains (x ∷ ms) (Moved n k m d) → x ≡ Moved n k m d
first-only (Moved n' k' m' d') ms n k m d r b c = elim (contains-cons (Moved n' k' m' d') ms (Moved n k m d) c) [
  | inl e ↦ e
  | inr behind ↦ absurd (above-first n n' k k' m m' d d' ms r.1 b behind)
]
first-only (Taken t) ms n k m d r b c = absurd b
first-only (Loaded u t) ms n k m d r b c = absurd b

pub record-there : (J : List Rec) (i : ℕ) (x : Rec) → i < length J → x ≡ get_or J i x → record_at J (i + 1) ≡ Some x
record-there J i x lt is = rw add-one (slice_get_read J (length J) i x refl lt is)

pub record-before : (J : List Rec) (p : ℕ) (x : Rec) → 1 ≤ p → p ≤ length J → x ≡ get_or J (p - 1) x → record_at J p ≡ Some x
record-before J p x low high is = let e : p - 1 + 1 ≡ p = omega arith in ap (record_at J) (sym e) ∙ record-there J (p - 1) x (omega arith) is
