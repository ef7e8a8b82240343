-- The upper-case hexadecimal digits are the lower-case ones in upper case.
use Rattle.std.proofs.Common.{◌≡◌, ℕ, zero, suc, ◌/◌, ◌%◌, ◌<◌, ◌==◌, Bool, true, ◌&&◌, inl, inr, List, [], ◌∷◌, map, slice_index, refl, arith}
use Rattle.std.proofs.lemmas.Bool.{and_parts, cases_lt, eqb-true}
use Rattle.std.specs.Char.{to_ascii_uppercase}
use Rattle.hex.specs.Hex.{IsBytes, encode_lower, encode_upper, encode_with, lower_digits, upper_digits}

-- the digit at one place of the tables, which computes
abbrev agrees : ℕ → Bool
agrees d = to_ascii_uppercase (slice_index lower_digits d) == slice_index upper_digits d

abbrev all_agree : ℕ → Bool
all_agree zero = true
all_agree (suc n) = agrees n && all_agree n

all_agree-at : (n k : ℕ) → all_agree n ≡ true → k < n → agrees k ≡ true
all_agree-at zero k h lt = absurd (omega arith)
all_agree-at (suc n) k h lt =
    let parts = and_parts (agrees n) (all_agree n) h in
    elim (cases_lt k n) [
      | inl below ↦ all_agree-at n k parts.1 below
      | inr top ↦
          let e : k ≡ n = omega arith in
          rw e parts.0
    ]

upper-digit : (d : ℕ) → d < 16 → to_ascii_uppercase (slice_index lower_digits d) ≡ slice_index upper_digits d
upper-digit d lt = eqb-true (to_ascii_uppercase (slice_index lower_digits d)) (slice_index upper_digits d) (all_agree-at 16 d refl lt)

pub upper-encoded : (bytes : List ℕ) → IsBytes bytes → map to_ascii_uppercase (encode_lower bytes) ≡ encode_upper bytes
unfolding encode_with
upper-encoded [] h = refl
upper-encoded (b ∷ rest) h =
    let fits : b < 256 = h 0 in
    let high = upper-digit (b / 16) (omega arith) in
    let low = upper-digit (b % 16) (omega arith) in
    rw (high, low, upper-encoded rest (λ k. h (suc k))) refl
