-- A few notes more of one unit: what the counts are worth, and how many they are.
use Rattle.std.proofs.Common.{◌≡◌, ℕ, zero, suc, ◌+◌, ◌*◌, ◌-◌, ◌≤◌, ◌<◌, true, List, [], ◌∷◌, Some, length, get_or, set, sum, slice_get, subst, sym, refl, arith, inl, inr, get_or-set_other, get_or-set_same}
use Rattle.std.specs.Str.{bytes_eq}
use Rattle.std.proofs.lemmas.Bool.{cases_lt}
use Rattle.std.proofs.lemmas.List.Sums.{sum_by-set}
use Rattle.std.proofs.lemmas.List.{get_or_past}
use Rattle.xfs_base.specs.declared.money.NoteKind.{NoteKind}
use Rattle.xfs_base.specs.Money.{value, value_at, value_from}
use Rattle.xfs_base.specs.declared.counts.Counts.{Counts}
use Rattle.xfs_mix.specs.Mix.{IsRaised}

-- the same counts from a unit on are worth the same from there on
pub value_same : (ks : List NoteKind) (i : ℕ) (cs ds : List ℕ) (cur : List ℕ) → ((w : ℕ) → i ≤ w → get_or ds w 0 ≡ get_or cs w 0) → value_from ks i ds cur ≡ value_from ks i cs cur
value_same [] i cs ds cur same = refl
value_same (k ∷ ks) i cs ds cur same =
    let here = same i (omega arith) in
    let rest = value_same ks (i + 1) cs ds cur (λ w le. same w (omega arith)) in
    rw (here, rest) refl

more_at : (k : NoteKind) (cur : List ℕ) (c n : ℕ) → bytes_eq k.currency cur ≡ true → value_at k (c + n) cur ≡ value_at k c cur + 1000 * k.value * n
more_at k cur c n y = rw y (omega arith)

pub value_raised : (ks : List NoteKind) (i j n : ℕ) (cs ds : List ℕ) (cur : List ℕ) (k : NoteKind) → IsRaised (i + j) n cs ds → slice_get ks j ≡ Some k → bytes_eq k.currency cur ≡ true
    → value_from ks i ds cur ≡ value_from ks i cs cur + 1000 * k.value * n
value_raised [] i j n cs ds cur k r e y = absurd cc
value_raised (q ∷ ks) i zero n cs ds cur k r e y =
    let is : q ≡ k = cc in
    let place : i + 0 ≡ i = omega arith in
    let here : get_or ds i 0 ≡ get_or cs i 0 + n = rw place at r.here in
    let rest = value_same ks (i + 1) cs ds cur (λ w le. r.others w (λ e. omega (arith, e, le))) in
    let more = more_at k cur (get_or cs i 0) n y in
    rw (is, here, rest, more) (omega arith)
value_raised (q ∷ ks) i (suc j) n cs ds cur k r e y =
    let place : i + suc j ≡ i + 1 + j = omega arith in
    let here : get_or ds i 0 ≡ get_or cs i 0 = r.others i (λ e. omega (arith, e)) in
    let rest = value_raised ks (i + 1) j n cs ds cur k (rw place at r) e y in
    rw (here, rest) (omega arith)

pub raised_set : (cs : List ℕ) (u n : ℕ) → u < length cs → IsRaised u n cs (set cs u (get_or cs u 0 + n))
raised_set cs u n within = record {
  here = get_or-set_same cs u _ 0 within;
  others = λ w ne. get_or-set_other cs u w _ 0 ne;
}

-- fewer of one unit
pub raised_back : (cs : List ℕ) (u n : ℕ) → u < length cs → n ≤ get_or cs u 0 → IsRaised u n (set cs u (get_or cs u 0 - n)) cs
raised_back cs u n within le = record {
  here = rw (get_or-set_same cs u (get_or cs u 0 - n) 0 within) (omega arith);
  others = λ w ne. sym (get_or-set_other cs u w _ 0 ne);
}

pub sum_set : (cs : List ℕ) (u x : ℕ) → u < length cs → sum (set cs u x) + get_or cs u 0 ≡ sum cs + x
sum_set cs u x within = sum_by-set (λ n. n) cs u x 0 within

-- a count that isn't 0 stands in the list
pub in_list : (cs : List ℕ) (u : ℕ) → 0 < get_or cs u 0 → u < length cs
in_list cs u h = elim (cases_lt u (length cs)) [
  | inl l ↦ l
  | inr g ↦ absurd (omega (arith, get_or_past cs u 0 g, h))
]

pub value_more : (ks : List NoteKind) (u n : ℕ) (old new : Counts) (cur : List ℕ) (k : NoteKind) → IsRaised u n old.0 new.0 → slice_get ks u ≡ Some k → bytes_eq k.currency cur ≡ true
    → value ks new cur ≡ value ks old cur + 1000 * k.value * n
value_more ks u n old new cur k r e y =
    let place : u ≡ 0 + u = omega arith in
    value_raised ks 0 u n old.0 new.0 cur k (subst (λ (w : ℕ). IsRaised w n old.0 new.0) place r) e y
