-- The table before any notes are allowed, and what it says once all are.
use Rattle.std.proofs.Common.{◌≡◌, ℕ, zero, suc, ◌+◌, ◌*◌, ◌≤◌, ◌<◌, cond, List, [], ◌∷◌, Option, None, Some, get_or, slice_get, replicate, refl, arith, inl, inr, Result, Ok, Err, IfOk, Vec, Global}
use Rattle.std.specs.Option.{option_map_or}
use Rattle.std.specs.Str.{bytes_eq}
use Rattle.std.proofs.Math.Nat.{mul-le-mul_left}
use Rattle.std.proofs.lemmas.Bool.{cases_Bool}
use Rattle.std.proofs.lemmas.List.{length-replicate, get_or-replicate}
use Rattle.xfs_base.specs.declared.counts.Counts.{Counts}
use Rattle.xfs_base.specs.declared.money.NoteKind.{NoteKind}
use Rattle.xfs_base.specs.Counts.{at}
use Rattle.xfs_base.specs.Money.{value, value_from}
use Rattle.xfs_mix.specs.Mix.{IsWithin, IsBest, IsTable, IsMix, IsBestMix, usable, none_yet}

zeros : (n w : ℕ) → get_or {A = ℕ} (replicate n 0) w 0 ≡ 0
zeros zero w = refl
zeros (suc n) zero = refl
zeros (suc n) (suc w) = zeros n w

value_none : (ks : List NoteKind) (i : ℕ) (cs : List ℕ) (cur : List ℕ) → ((w : ℕ) → get_or cs w 0 ≡ 0) → value_from ks i cs cur ≡ 0
value_none [] i cs cur none = refl
value_none (k ∷ ks) i cs cur none = rw (none i, value_none ks (i + 1) cs cur none) (elim (cases_Bool (bytes_eq k.currency cur)) [
  | inl y ↦ rw y (omega arith)
  | inr n ↦ rw n refl
])

pub none_for_more : (ks : List NoteKind) (cur : List ℕ) (a : ℕ) (m : Counts) → 0 < a → IsWithin ks none_yet cur a m → ⊥
none_for_more ks cur a m some is =
    let none = value_none ks 0 m.0 cur (λ w. omega (arith, is.lies w, zeros 8 w)) in
    omega (arith, none, is.worth)

pub within_none : (ks : List NoteKind) (cur : List ℕ) → IsWithin ks none_yet cur 0 none_yet
within_none ks cur = record { lies = λ w. omega arith; worth = value_none ks 0 none_yet.0 cur (zeros 8) }

pub table_first : (ks : List NoteKind) (cur : List ℕ) (n : ℕ) → IsTable ks none_yet cur (Some none_yet ∷ replicate n None)
table_first ks cur n zero d within = (refl, within_none ks cur, λ m is. omega arith)
table_first ks cur n (suc b) d within =
    rw (get_or-replicate n b None d (omega (arith, rw length-replicate at within))) (λ m h. none_for_more ks cur (suc b) m (omega arith) h)

pub first_ok : {E : Type 0} → (ks : List NoteKind) (cur : List ℕ) (n : ℕ) (r : Result (Vec (Option Counts) Global) E) → IfOk r (λ t. t.items ≡ Some none_yet ∷ replicate n None) → IfOk r (λ t. IsTable ks none_yet cur t.items)
first_ok ks cur n (Ok t) is = rw is (table_first ks cur n)
first_ok ks cur n (Err e) is = tt

-- within limits that are what may be used, counts are mixes
pub best_is_mix : (ks : List NoteKind) (have limits : Counts) (cur : List ℕ) (a : ℕ) (o : Option Counts) → ((u : ℕ) → at limits u ≡ usable ks have cur u) → IsBest ks limits cur a o → IsBestMix ks have cur a o
best_is_mix ks have limits cur a None same best = λ m is. best m record { lies = λ u. rw (same u) (is.within u); worth = is.worth }
best_is_mix ks have limits cur a (Some n) same best =
    (record { within = λ u. rw (← same u) (best.1.lies u); worth = best.1.worth }, λ m is. best.2 m record { lies = λ u. rw (same u) (is.within u); worth = is.worth })

-- counts within others are worth no more
value_within : (ks : List NoteKind) (i : ℕ) (cs ds : List ℕ) (cur : List ℕ) → ((w : ℕ) → get_or cs w 0 ≤ get_or ds w 0) → value_from ks i cs cur ≤ value_from ks i ds cur
value_within [] i cs ds cur le = omega arith
value_within (k ∷ ks) i cs ds cur le =
    let rest = value_within ks (i + 1) cs ds cur le in
    elim (cases_Bool (bytes_eq k.currency cur)) [
      | inl y ↦ rw y (omega (arith, rest, mul-le-mul_left (1000 * k.value) (le i)))
      | inr n ↦ rw n (omega (arith, rest))
    ]

usable_of : (k : Option NoteKind) (have : Counts) (cur : List ℕ) (u : ℕ) → option_map_or (λ k. cond (bytes_eq k.currency cur) (at have u) 0) k 0 ≤ at have u
usable_of None have cur u = omega arith
usable_of (Some k) have cur u = elim (cases_Bool (bytes_eq k.currency cur)) [ inl y ↦ rw y (omega arith) | inr n ↦ rw n (omega arith) ]

usable_within : (ks : List NoteKind) (have : Counts) (cur : List ℕ) (u : ℕ) → usable ks have cur u ≤ at have u
usable_within ks have cur u = usable_of (slice_get ks u) have cur u

-- an amount past all that is there has no mix
pub no_mix_past : (ks : List NoteKind) (have : Counts) (cur : List ℕ) (a : ℕ) → value ks have cur < 1000 * a → (n : Counts) → IsMix ks have cur a n → ⊥
no_mix_past ks have cur a past n is =
    let le = value_within ks 0 n.0 have.0 cur (λ w. omega (arith, is.within w, usable_within ks have cur w)) in
    omega (arith, le, is.worth, past)
