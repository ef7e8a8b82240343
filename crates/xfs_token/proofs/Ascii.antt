-- A token's text is ASCII, and so UTF-8.
use Rattle.std.proofs.Common.{◌≡◌, ℕ, ◌+◌, ◌/◌, ◌%◌, ◌<◌, List, [], ◌∷◌, ◌++◌, length, Bool, true, codes, ◌&&◌, nat_lt, refl, subst, sym, arith}
use Rattle.std.specs.List.{list_all}
use Rattle.std.specs.Str.{IsUtf8, IsAscii}
use Rattle.std.proofs.lemmas.Bool.{and_parts, ltb-true}
use Rattle.std.proofs.lemmas.Str.{IsUtf8-from_ascii, IsAscii-append}
use Rattle.std.proofs.lemmas.Str.Ascii.{IsAscii-nil, IsAscii-cons}
use Rattle.hex.specs.Hex.{upper_digits}
use Rattle.hex.proofs.HexLemmas.{IsAscii-encode_with}
use Rattle.xfs_token.specs.Token.{Parts, is_upper_hex, is_key_byte, is_value_byte, is_nonce, is_value, is_free_key, may_follow, four_digits, pairs_text, covered, form, IsWellFormed, Spells}

record Ascii (bs : List ℕ) : Type 0 where
  is : IsAscii bs

none : Ascii []
none = record { is = IsAscii-nil }

more : (b : ℕ) {bs : List ℕ} → b < 128 → Ascii bs → Ascii (b ∷ bs)
more b small rest = record { is = IsAscii-cons b _ small rest.is }

joined : {xs ys : List ℕ} → Ascii xs → Ascii ys → Ascii (xs ++ ys)
joined first rest = record { is = IsAscii-append _ _ first.is rest.is }

all_of : (p : ℕ → Bool) → ((b : ℕ) → p b ≡ true → b < 128) → (bs : List ℕ) → list_all p bs ≡ true → Ascii bs
all_of p small [] h = none
all_of p small (b ∷ bs) h = let parts = and_parts (p b) (list_all p bs) h in more b (small b parts.0) (all_of p small bs parts.1)

literal : (bs : List ℕ) → list_all (λ b. nat_lt b 128) bs ≡ true → Ascii bs
literal bs h = all_of (λ b. nat_lt b 128) (λ b. ltb-true b 128) bs h

hex_small : (b : ℕ) → is_upper_hex b ≡ true → b < 128
hex_small b h = grind arith

key_small : (b : ℕ) → is_key_byte b ≡ true → b < 128
key_small b h = grind arith

value_small : (b : ℕ) → is_value_byte b ≡ true → b < 128
value_small b h = grind arith

of_nonce : (nonce : List ℕ) → is_nonce nonce ≡ true → Ascii nonce
of_nonce nonce h = all_of is_upper_hex hex_small nonce (and_parts _ _ h).1

of_digits : (n : ℕ) → Ascii (four_digits n)
of_digits n = more (48 + n / 1000 % 10) (omega arith) (more (48 + n / 100 % 10) (omega arith) (more (48 + n / 10 % 10) (omega arith) (more (48 + n % 10) (omega arith) none)))

of_pairs : (earlier pairs : List (List ℕ × List ℕ)) → may_follow earlier pairs ≡ true → Ascii (pairs_text pairs)
of_pairs earlier [] h = none
of_pairs earlier (p ∷ ps) h =
    let parts = and_parts (is_free_key p.0 earlier && is_value p.1) _ h in
    let both = and_parts (is_free_key p.0 earlier) (is_value p.1) parts.0 in
    let key = and_parts _ _ (and_parts _ _ (and_parts _ _ both.0).0).0 in
    joined (joined (joined (joined (literal (codes ",") refl) (all_of is_key_byte key_small p.0 key.1))
    (literal (codes "=") refl)) (all_of is_value_byte value_small p.1 (and_parts _ _ both.1).1)) (of_pairs (earlier ++ p ∷ []) ps parts.1)

of_form : (t : Parts) (n : ℕ) → IsWellFormed t → Ascii (form t n)
unfolding form covered
of_form t n formed =
    joined (joined (joined (joined (joined (joined (literal (codes "NONCE=") refl) (of_nonce t.nonce formed.nonce))
    (literal (codes ",TOKENFORMAT=1,TOKENLENGTH=") refl)) (of_digits n)) (of_pairs [] t.pairs formed.pairs))
    (literal (codes ",HMACSHA256=") refl)) record { is = IsAscii-encode_with upper_digits t.mac (literal upper_digits refl).is }

pub spelled-IsUtf8 : (t : Parts) (bytes : List ℕ) → Spells t bytes → IsUtf8 bytes
spelled-IsUtf8 t bytes spelled = IsUtf8-from_ascii bytes (subst IsAscii (sym spelled.text) (of_form t (length bytes) spelled.formed).is)
