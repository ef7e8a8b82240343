-- Upper-case hexadecimal digits, two a byte: each text of them is that of its bytes.
use Rattle.std.proofs.Common.{◌≡◌, ℕ, zero, suc, ◌+◌, ◌-◌, ◌*◌, ◌/◌, ◌%◌, ◌<◌, ◌≤◌, ◌==◌, Bool, true, false, not, ◌&&◌, ◌||◌, List, [], ◌∷◌, ◌++◌, length, replicate, refl, sym, ◌∙◌, ap, subst, arith, length-append, inl, inr}
use Rattle.std.specs.Prelude.{nat_le, slice_index, if◌then◌else◌}
use Rattle.std.specs.List.{list_all}
use Rattle.std.proofs.lemmas.Bool.{and_parts, and_from, cases_lt, eqb-true, leb-true, or_cases}
use Rattle.std.proofs.lemmas.List.Folds.{list_all-append}
use Rattle.std.proofs.lemmas.List.{append-nil}
use Rattle.hex.specs.Hex.{encode_upper, encode_with, upper_digits}
use Rattle.hex.proofs.HexLemmas.{length-encode_with}
use Rattle.xfs_token.specs.Token.{is_upper_hex, is_digit}
use Rattle.xfs_token.specs.Reading.{Stops, IsStuck, MacEnd}
use Rattle.xfs_token.proofs.Stuck.{both_ways}
use Rattle.xfs_token.proofs.Tails.{FirstFails}

-- a test passes at each number below
abbrev pub below : (ℕ → Bool) → ℕ → Bool
below p zero = true
below p (suc n) = p n && below p n

pub below-at : (p : ℕ → Bool) (n k : ℕ) → below p n ≡ true → k < n → p k ≡ true
below-at p zero k h lt = absurd (omega arith)
below-at p (suc n) k h lt =
    let parts = and_parts (p n) (below p n) h in
    elim (cases_lt k n) [ inl less ↦ below-at p n k parts.1 less | inr top ↦ (let e : k ≡ n = omega arith in subst (λ (m : ℕ). p m ≡ true) (sym e) parts.0) ]

-- the value of a digit
abbrev nibble : ℕ → ℕ
nibble b = if nat_le b 57 then b - 48 else b - 55

-- a digit is that of its value, which is below 16
abbrev reads_back : ℕ → Bool
reads_back b = not (is_upper_hex b) || (slice_index upper_digits (nibble b) == b && nat_le (nibble b) 15)

record IsNibble (b : ℕ) : Type 0 where
  digit : slice_index upper_digits (nibble b) ≡ b
  small : nibble b ≤ 15

nibble_of : (b : ℕ) → is_upper_hex b ≡ true → IsNibble b
nibble_of b h =
    let small : b < 71 = elim (or_cases (is_digit b) (nat_le 65 b && nat_le b 70) h) [
      | inl d ↦ (let k = leb-true b 57 (and_parts (nat_le 48 b) (nat_le b 57) d).1 in omega arith)
      | inr l ↦ (let k = leb-true b 70 (and_parts (nat_le 65 b) (nat_le b 70) l).1 in omega arith)
    ] in
    let back : reads_back b ≡ true = below-at reads_back 71 b refl small in
    let both : (slice_index upper_digits (nibble b) == b && nat_le (nibble b) 15) ≡ true = pick (is_upper_hex b) _ h back in
    let parts = and_parts (slice_index upper_digits (nibble b) == b) (nat_le (nibble b) 15) both in
    record { digit = eqb-true _ b parts.0; small = leb-true _ 15 parts.1 }
  where
    pick : (x y : Bool) → x ≡ true → (not x || y) ≡ true → y ≡ true
    pick true y h k = k
    pick false y h k = absurd (cc)

-- the bytes of an even number of digits
pub record HexOf (digits : List ℕ) (n : ℕ) : Type 0 where
  pub bytes : List ℕ
  pub long : length bytes ≡ n
  pub small : (i : ℕ) → slice_index bytes i < 256
  pub is : digits ≡ encode_upper bytes

pub hex_of : (n : ℕ) (digits : List ℕ) → list_all is_upper_hex digits ≡ true → length digits ≡ 2 * n → HexOf digits n
unfolding encode_with
hex_of zero [] h e = record { bytes = []; long = refl; small = λ i. omega arith; is = refl }
hex_of zero (a ∷ digits) h e = absurd (omega arith)
hex_of (suc n) [] h e = absurd (omega arith)
hex_of (suc n) (a ∷ []) h e = absurd (omega arith)
hex_of (suc n) (a ∷ b ∷ digits) h e =
    let first = and_parts (is_upper_hex a) (list_all is_upper_hex (b ∷ digits)) h in
    let second = and_parts (is_upper_hex b) (list_all is_upper_hex digits) first.1 in
    let x = nibble_of a first.0 in
    let y = nibble_of b second.0 in
    let rest = hex_of n digits second.1 (omega arith) in
    let xs = x.small in
    let ys = y.small in
    let high : (16 * nibble a + nibble b) / 16 ≡ nibble a = omega arith in
    let low : (16 * nibble a + nibble b) % 16 ≡ nibble b = omega arith in
    record {
      bytes = (16 * nibble a + nibble b) ∷ rest.bytes;
      long = (let l = rest.long in omega arith);
      small = fits (16 * nibble a + nibble b) rest.bytes (omega arith) rest.small;
      is = pair a b _ _ digits _ (sym (ap (λ (k : ℕ). slice_index upper_digits k) high ∙ x.digit)) (sym (ap (λ (k : ℕ). slice_index upper_digits k) low ∙ y.digit)) rest.is;
    }
  where
    fits : (v : ℕ) (vs : List ℕ) → v < 256 → ((i : ℕ) → slice_index vs i < 256) → (i : ℕ) → slice_index (v ∷ vs) i < 256
    fits v vs h k zero = h
    fits v vs h k (suc i) = k i

    pair : (a b a' b' : ℕ) (xs ys : List ℕ) → a ≡ a' → b ≡ b' → xs ≡ ys → a ∷ b ∷ xs ≡ a' ∷ b' ∷ ys
    pair a b a' b' xs ys p q r = cc

-- 64 digits are an HMAC's
pub mac_of : (digits : List ℕ) → list_all is_upper_hex digits ≡ true → length digits ≡ 64 → MacEnd digits
mac_of digits h e = let x = hex_of 32 digits h e in record { mac = x.bytes; is_mac = record { long = x.long; bytes = x.small }; is = x.is }

digit_at : (k : ℕ) → k < 16 → is_upper_hex (slice_index upper_digits k) ≡ true
digit_at k lt = below-at (λ (k : ℕ). is_upper_hex (slice_index upper_digits k)) 16 k refl lt

all_hex : (bytes : List ℕ) → ((i : ℕ) → slice_index bytes i < 256) → list_all is_upper_hex (encode_upper bytes) ≡ true
unfolding encode_with
all_hex [] h = refl
all_hex (b ∷ bs) h =
    let fits : b < 256 = h 0 in
    and_from (is_upper_hex (slice_index upper_digits (b / 16))) _ (digit_at (b / 16) (omega arith))
    (and_from (is_upper_hex (slice_index upper_digits (b % 16))) (list_all is_upper_hex (encode_upper bs)) (digit_at (b % 16) (omega arith)) (all_hex bs (λ i. h (suc i))))

zeros_all : (n : ℕ) → list_all is_upper_hex (replicate n 48) ≡ true
zeros_all zero = refl
zeros_all (suc n) = zeros_all n

pub length-zeros : (n : ℕ) → length {A = ℕ} (replicate n 48) ≡ n
length-zeros zero = refl
length-zeros (suc n) = ap suc (length-zeros n)

-- fewer than 64 digits, and then another byte or none
pub stuck_mac_short : (digits rest : List ℕ) → list_all is_upper_hex digits ≡ true → length digits < 64 → FirstFails is_upper_hex rest → IsStuck MacEnd (digits ++ rest) (length rest)
stuck_mac_short digits rest h short fails =
    let l = length-append digits (replicate (64 - length digits) 48) in
    let z = length-zeros (64 - length digits) in record {
      good = digits;
      bad = rest;
      cut = refl;
      left_is = refl;
      more = replicate (64 - length digits) 48;
      begins = mac_of (digits ++ replicate (64 - length digits) 48) (list_all-append is_upper_hex digits (replicate (64 - length digits) 48) ∙ and_from _ _ h (zeros_all (64 - length digits))) (omega (arith, l, z));
      stops = stops rest fails;
    }
  where
    none : (xs more : List ℕ) (b : ℕ) → is_upper_hex b ≡ false → list_all is_upper_hex (xs ++ b ∷ more) ≡ true → ⊥
    none xs more b f all = both_ways (is_upper_hex b) (and_parts (is_upper_hex b) (list_all is_upper_hex more) (and_parts (list_all is_upper_hex xs) (list_all is_upper_hex (b ∷ more)) (sym (list_all-append is_upper_hex xs (b ∷ more)) ∙ all)).1).0 f

    stops : (rest : List ℕ) → FirstFails is_upper_hex rest → Stops MacEnd digits rest
    stops [] f = λ m. let e = ap length m.is ∙ length-encode_with upper_digits m.mac in let k = m.is_mac.long in absurd (omega arith)
    stops (b ∷ bs) f = λ more m. none digits more b f (ap (list_all is_upper_hex) m.is ∙ all_hex m.mac m.is_mac.bytes)

-- 64 digits, and then a byte
pub stuck_mac_long : (digits bs : List ℕ) (b : ℕ) → list_all is_upper_hex digits ≡ true → length digits ≡ 64 → IsStuck MacEnd (digits ++ b ∷ bs) (length (b ∷ bs))
stuck_mac_long digits bs b h long = record {
  good = digits;
  bad = b ∷ bs;
  cut = refl;
  left_is = refl;
  more = [];
  begins = subst MacEnd (sym (append-nil digits)) (mac_of digits h long);
  stops = λ more m. let e = ap length m.is ∙ length-encode_with upper_digits m.mac in let k = m.is_mac.long in let l = length-append digits (b ∷ more) in absurd (omega arith);
}
