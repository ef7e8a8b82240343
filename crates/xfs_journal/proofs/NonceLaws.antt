-- The text of a nonce is of upper-case hexadecimal digits, 0 to 9 and A to F.
use Rattle.std.proofs.Common.{ℕ, zero, suc, ◌<◌, ◌/◌, ◌%◌, ◌^◌, List, [], ◌∷◌, ◌++◌, ◌≡◌, Bool, true, ◌||◌, refl, arith}
use Rattle.std.specs.Int.{to_be_bytes, byte_at, bytes_high_first, w64, is_in_range}
use Rattle.std.specs.List.{All, Contains, AllByRecursion, list_all}
use Rattle.std.specs.Prelude.{slice_index}
use Rattle.std.proofs.lemmas.List.Elements.{All-nil, All-cons, All-weaker, All-contains, Contains-get_or}
use Rattle.std.proofs.lemmas.List.Sums.{AllPass-from_list_all, list_all-from_AllPass}
use Rattle.hex.specs.Hex.{encode_with, encode_upper, upper_digits}
use Rattle.xfs_journal.specs.Journal.{nonce_text}

abbrev IsDigit : ℕ → Type 0
IsDigit = Contains upper_digits

digit : (n : ℕ) → n < 16 → IsDigit (slice_index upper_digits n)
digit n small = Contains-get_or upper_digits n 0 small

digits-of : (bytes : List ℕ) → AllByRecursion (λ b. b < 256) bytes → All IsDigit (encode_upper bytes)
unfolding encode_with
digits-of [] small = All-nil IsDigit
digits-of (b ∷ bytes) small =
    let high = digit (b / 16) (omega (arith, small.0)) in
    let low = digit (b % 16) (omega arith) in
    All-cons IsDigit (slice_index upper_digits (b / 16)) (slice_index upper_digits (b % 16) ∷ encode_upper bytes) high
    (All-cons IsDigit (slice_index upper_digits (b % 16)) (encode_upper bytes) low (digits-of bytes small.1))

pub small-append : (xs ys : List ℕ) → AllByRecursion (λ b. b < 256) xs → AllByRecursion (λ b. b < 256) ys → AllByRecursion (λ b. b < 256) (xs ++ ys)
small-append [] ys small_x small_y = small_y
small-append (x ∷ xs) ys small_x small_y = (small_x.0, small-append xs ys small_x.1 small_y)

rest-small : (n : ℕ) → n % 256 < 256
rest-small n = omega arith

byte-small : (k n : ℕ) → byte_at k n < 256
byte-small zero n = rest-small n
byte-small (suc k) n = rest-small (n / 256 ^ suc k)

pub small-bytes : (k n : ℕ) → AllByRecursion (λ b. b < 256) (bytes_high_first k n)
small-bytes zero n = tt
small-bytes (suc k) n = (byte-small k n, small-bytes k n)

abbrev is_upper_hex : ℕ → Bool
is_upper_hex b = is_in_range 48 57 b || is_in_range 65 70 b

digit-passes : (b : ℕ) → IsDigit b → is_upper_hex b ≡ true
digit-passes b is = All-contains (λ x. is_upper_hex x ≡ true) upper_digits b (AllPass-from_list_all is_upper_hex upper_digits refl) is

pub nonce_text-digits : (number word : ℕ) → list_all (λ b. is_in_range 48 57 b || is_in_range 65 70 b) (nonce_text number word) ≡ true
nonce_text-digits number word =
    let bytes = to_be_bytes w64 word ++ to_be_bytes w64 number in
    let digits = digits-of bytes (small-append (to_be_bytes w64 word) (to_be_bytes w64 number) (small-bytes 8 word) (small-bytes 8 number)) in
    list_all-from_AllPass is_upper_hex (nonce_text number word) (All-weaker IsDigit (λ b. is_upper_hex b ≡ true) digit-passes (nonce_text number word) digits)
