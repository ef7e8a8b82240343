-- A loop that changes each count in turn.
use Rattle.std.proofs.Common.{◌≡◌, ◌≢◌, inl, inr, ℕ, ◌+◌, ◌^◌, ◌<◌, ◌≤◌, List, length, get_or, set, ap, arith, get_or-set_same, get_or-set_other}
use Rattle.std.proofs.lemmas.Bool.{cases_lt, cases_eq}

pub plus-done : (sum a b : List ℕ) (i u : ℕ) → i < length sum → ((u : ℕ) → u < i → get_or sum u 0 ≡ get_or a u 0 + get_or b u 0) → ((u : ℕ) → i ≤ u → get_or sum u 0 ≡ get_or a u 0) → u < i + 1
    → get_or (set sum i (get_or sum i 0 + get_or b i 0)) u 0 ≡ get_or a u 0 + get_or b u 0
plus-done sum a b i u lt done left le = elim (cases_lt u i) [
  | inl below ↦ let ne : u ≢ i = omega arith in rw get_or-set_other (done u below)
  | inr at ↦ let e : u ≡ i = omega arith in rw (e, get_or-set_same) (ap (λ n. n + get_or b i 0) (left i (omega arith)))
]

pub plus-left : (sum a : List ℕ) (i u v : ℕ) → ((u : ℕ) → i ≤ u → get_or sum u 0 ≡ get_or a u 0) → i + 1 ≤ u → get_or (set sum i v) u 0 ≡ get_or a u 0
plus-left sum a i u v left le = let ne : u ≢ i = omega arith in rw get_or-set_other (left u (omega arith))

pub plus-bound : (sum a : List ℕ) (i u v : ℕ) → i < length sum → ((u : ℕ) → i ≤ u → get_or sum u 0 ≡ get_or a u 0) → ((u : ℕ) → get_or sum u 0 < get_or a u 0 + 2 ^ 32) → v < 2 ^ 32
    → get_or (set sum i (get_or sum i 0 + v)) u 0 < get_or a u 0 + 2 ^ 32
plus-bound sum a i u v lt left bound small = elim (cases_eq u i) [
  | inl at ↦ rw (at, get_or-set_same) (omega (arith, left i (omega arith)))
  | inr away ↦ let ne : u ≢ i = away in rw get_or-set_other (bound u)
]
