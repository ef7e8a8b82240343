-- The token: NONCE, TOKENFORMAT, TOKENLENGTH, pairs of key and value, and HMACSHA256, joined by commas in one text.
use Rattle.std.specs.Prelude.{◌≡◌, ℕ, ◌+◌, ◌-◌, ◌/◌, ◌%◌, ◌<◌, ◌≤◌, ◌==◌, ◌&&◌, ◌||◌, not, nat_le, Bool, true, List, [], ◌∷◌, ◌++◌, length, take, codes, IsTrue, slice_index}
use Rattle.std.specs.List.{list_all, list_any}
use Rattle.std.specs.Str.{bytes_eq}
use Rattle.hex.specs.Hex.{encode_upper}
use Rattle.xfs_hmac.specs.Hmac.{hmac}
use Rattle.xfs_token.specs.declared.text.TheConstants.{MAC_FIELD}

-- the parts of a token: its nonce, its pairs of key and value in their order, and its HMAC
pub record Parts : Type 0 where
  pub nonce : List ℕ
  pub pairs : List (List ℕ × List ℕ)
  pub mac : List ℕ

abbrev pub is_digit : ℕ → Bool
is_digit b = nat_le 48 b && nat_le b 57

abbrev pub is_letter : ℕ → Bool
is_letter b = nat_le 65 b && nat_le b 90

-- 0 to 9 and A to F
abbrev pub is_upper_hex : ℕ → Bool
is_upper_hex b = is_digit b || (nat_le 65 b && nat_le b 70)

abbrev pub is_key_byte : ℕ → Bool
is_key_byte b = is_letter b || is_digit b

-- `!` to `~` without comma and equals sign
abbrev pub is_value_byte : ℕ → Bool
is_value_byte b = nat_le 33 b && nat_le b 126 && not (b == 44) && not (b == 61)

-- a nonce: 1 to 128 upper-case hexadecimal digits
abbrev pub is_nonce : List ℕ → Bool
is_nonce nonce = nat_le 1 (length nonce) && nat_le (length nonce) 128 && list_all is_upper_hex nonce

-- a key: 1 to 32 letters and digits, the first a letter
abbrev pub is_key : List ℕ → Bool
is_key key = nat_le 1 (length key) && nat_le (length key) 32 && is_letter (slice_index key 0) && list_all is_key_byte key

abbrev pub is_reserved : List ℕ → Bool
is_reserved key = bytes_eq key (codes "NONCE") || bytes_eq key (codes "TOKENFORMAT") || bytes_eq key (codes "TOKENLENGTH") || bytes_eq key (codes "HMACSHA256")

abbrev pub has_key : List ℕ → List (List ℕ × List ℕ) → Bool
has_key key pairs = list_any (λ p. bytes_eq p.0 key) pairs

-- a key that may follow these pairs
abbrev pub is_free_key : List ℕ → List (List ℕ × List ℕ) → Bool
is_free_key key pairs = is_key key && not (is_reserved key) && not (has_key key pairs)

-- a value: one or more bytes
abbrev pub is_value : List ℕ → Bool
is_value value = nat_le 1 (length value) && list_all is_value_byte value

-- pairs that may follow earlier ones: each key is free behind all before it
abbrev pub may_follow : List (List ℕ × List ℕ) → List (List ℕ × List ℕ) → Bool
may_follow earlier [] = true
may_follow earlier (p ∷ ps) = is_free_key p.0 earlier && is_value p.1 && may_follow (earlier ++ p ∷ []) ps

-- 32 bytes
pub record IsMac (mac : List ℕ) : Type 0 where
  pub long : length mac ≡ 32
  pub bytes : (i : ℕ) → slice_index mac i < 256

-- each part is of the grammar
pub record IsWellFormed (t : Parts) : Type 0 where
  pub nonce : IsTrue (is_nonce t.nonce)
  pub pairs : IsTrue (may_follow [] t.pairs)
  pub mac : IsMac t.mac

-- four decimal digits
abbrev pub four_digits : ℕ → List ℕ
four_digits n = (48 + n / 1000 % 10) ∷ (48 + n / 100 % 10) ∷ (48 + n / 10 % 10) ∷ (48 + n % 10) ∷ []

-- each pair behind a comma
abbrev pub pairs_text : List (List ℕ × List ℕ) → List ℕ
pairs_text [] = []
pairs_text (p ∷ ps) = codes "," ++ p.0 ++ codes "=" ++ p.1 ++ pairs_text ps

-- the bytes before the HMAC, which it covers, of a token whose length field has the number n
unfoldable pub covered : List ℕ → List (List ℕ × List ℕ) → ℕ → List ℕ
covered nonce pairs n = codes "NONCE=" ++ nonce ++ codes ",TOKENFORMAT=1,TOKENLENGTH=" ++ four_digits n ++ pairs_text pairs

-- the text of a token whose length field has the number n
unfoldable pub form : Parts → ℕ → List ℕ
form t n = covered t.nonce t.pairs n ++ codes ",HMACSHA256=" ++ encode_upper t.mac

-- these bytes spell this token
pub record Spells (t : Parts) (bytes : List ℕ) : Type 0 where
  pub formed : IsWellFormed t
  pub text : bytes ≡ form t (length bytes)
  pub short : length bytes ≤ 1024

-- these bytes spell this token, and its HMAC is that of the bytes before `,HMACSHA256=` and its 64 digits under the key
pub record Genuine (key : List ℕ) (t : Parts) (bytes : List ℕ) : Type 0 where
  pub spelled : Spells t bytes
  pub mac : t.mac ≡ hmac key (take (length bytes - MAC_FIELD) bytes)
