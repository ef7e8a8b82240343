-- Counts of at most 60 notes: what they are worth at most, and that allowing 60 of each unit is enough for them.
use Rattle.std.proofs.Common.{◌≡◌, ℕ, ◌+◌, ◌*◌, ◌≤◌, ◌<◌, cond, List, [], ◌∷◌, Option, None, Some, suc, length, get_or, slice_get, drop, sum, map, min, refl, arith, inl, inr, ltb}
use Rattle.std.specs.Option.{option_map_or}
use Rattle.std.specs.Str.{bytes_eq}
use Rattle.std.proofs.Math.ListN.{get_or-map}
use Rattle.std.proofs.Math.Nat.{mul-le-mul_right, min-le_left, le-min}
use Rattle.std.proofs.lemmas.Bool.{cases_lt, cases_Bool, ltb-true, ltb-false}
use Rattle.std.proofs.lemmas.List.{get_or_past, drop_all}
use Rattle.std.proofs.lemmas.List.Sums.{get_or-le-sum_by, sum_by-drop_more}
use Rattle.xfs_base.specs.declared.counts.Counts.{Counts}
use Rattle.xfs_base.specs.declared.money.NoteKind.{NoteKind}
use Rattle.xfs_base.specs.Counts.{at}
use Rattle.xfs_base.specs.Money.{value_from}
use Rattle.xfs_mix.specs.Mix.{IsMix, IsBestMix, IsBestOfSixty, AreMany, AreAtMost, usable, without_many}

sum_from : (i : ℕ) (cs : List ℕ) → sum (drop i cs) ≡ get_or cs i 0 + sum (drop (i + 1) cs)
sum_from i cs = elim (cases_lt i (length cs)) [
  | inl l ↦ sum_by-drop_more (λ n. n) cs i 0 l
  | inr g ↦ rw (drop_all i cs g, drop_all (i + 1) cs (omega (arith, g)), get_or_past cs i 0 g) refl
]

value_most : (ks : List NoteKind) (i : ℕ) (cs cur : List ℕ) (most : ℕ) → AreAtMost most cur ks → value_from ks i cs cur ≤ 1000 * most * sum (drop i cs)
value_most [] i cs cur most all = omega arith
value_most (k ∷ ks) i cs cur most all =
    let rest = value_most ks (i + 1) cs cur most (λ w d lt. all (suc w) d (omega (arith, lt))) in
    rw (sum_from i cs) (elim (cases_Bool (bytes_eq k.currency cur)) [
      | inl y ↦ rw y (omega (arith, rest, mul-le-mul_right (get_or cs i 0) (all 0 k (omega arith) y)))
      | inr n ↦ rw n (omega (arith, rest))
    ])

-- an amount past 60 of the greatest notes has no mix of 60
pub many_past : (ks : List NoteKind) (have : Counts) (cur : List ℕ) (a most : ℕ) → AreAtMost most cur ks → 60 * most < a → AreMany ks have cur a
many_past ks have cur a most all past n is = elim (cases_lt 60 (sum n.0)) [
  | inl many ↦ many
  | inr few ↦
      let worth = value_most ks 0 n.0 cur most all in
      let bound = mul-le-mul_right (1000 * most) few in
      absurd (omega (arith, worth, bound, is.worth, past))
]

at_capped : (have some : Counts) (u : ℕ) → some.0 ≡ map (λ n. min n 60) have.0 → at some u ≡ min (at have u) 60
at_capped have some u is = rw is (get_or-map (λ n. min n 60) have.0 u 0)

usable_capped : (k : Option NoteKind) (cur : List ℕ) (c : ℕ) → option_map_or (λ k. cond (bytes_eq k.currency cur) (min c 60) 0) k 0 ≡ min (option_map_or (λ k. cond (bytes_eq k.currency cur) c 0) k 0) 60
usable_capped None cur c = refl
usable_capped (Some k) cur c = elim (cases_Bool (bytes_eq k.currency cur)) [ inl y ↦ rw y refl | inr n ↦ rw n refl ]

usable_some : (ks : List NoteKind) (have some : Counts) (cur : List ℕ) (u : ℕ) → some.0 ≡ map (λ n. min n 60) have.0 → usable ks some cur u ≡ min (usable ks have cur u) 60
usable_some ks have some cur u is = rw (at_capped have some u is) (usable_capped (slice_get ks u) cur (at have u))

at_most_sum : (n : Counts) (u : ℕ) → at n u ≤ sum n.0
at_most_sum n u = elim (cases_lt u (length n.0)) [
  | inl l ↦ get_or-le-sum_by (λ c. c) n.0 u 0 l
  | inr g ↦ omega (arith, get_or_past n.0 u 0 g)
]

-- a mix of at most 60 notes takes at most 60 of each unit
of_few : (ks : List NoteKind) (have some : Counts) (cur : List ℕ) (a : ℕ) (n : Counts) → some.0 ≡ map (λ n. min n 60) have.0 → sum n.0 ≤ 60 → IsMix ks have cur a n → IsMix ks some cur a n
of_few ks have some cur a n is few mix = record {
  within = λ u. rw (usable_some ks have some cur u is) (le-min (mix.within u) (omega (arith, at_most_sum n u, few)));
  worth = mix.worth;
}

of_some : (ks : List NoteKind) (have some : Counts) (cur : List ℕ) (a : ℕ) (n : Counts) → some.0 ≡ map (λ n. min n 60) have.0 → IsMix ks some cur a n → IsMix ks have cur a n
of_some ks have some cur a n is mix = record {
  within = λ u. omega (arith, rw (usable_some ks have some cur u is) at (mix.within u), min-le_left (usable ks have cur u) 60);
  worth = mix.worth;
}

pub best_of_sixty : (ks : List NoteKind) (have some : Counts) (cur : List ℕ) (a : ℕ) (o : Option Counts) → some.0 ≡ map (λ n. min n 60) have.0 → IsBestMix ks some cur a o → IsBestOfSixty ks have cur a (without_many o)
best_of_sixty ks have some cur a None is none = λ m mix. elim (cases_lt 60 (sum m.0)) [
  | inl many ↦ many
  | inr few ↦ absurd (none m (of_few ks have some cur a m is few mix))
]
best_of_sixty ks have some cur a (Some n) is best = elim (cases_Bool (ltb 60 (sum n.0))) [
  | inl y ↦ rw y (λ m mix. elim (cases_lt 60 (sum m.0)) [
    | inl many ↦ many
    | inr few ↦ omega (arith, ltb-true _ _ y, few, best.1 m (of_few ks have some cur a m is few mix))
  ])
  | inr fits ↦ rw fits (
    of_some ks have some cur a n is best.0,
    λ m mix. elim (cases_lt 60 (sum m.0)) [
      | inl many ↦ omega (arith, ltb-false _ _ fits, many)
      | inr few ↦ best.1 m (of_few ks have some cur a m is few mix)
    ],
    ltb-false _ _ fits,
  )
]
