-- What may stand at a place of a token's text, and that a text goes on from there no further.
use Rattle.std.specs.Prelude.{◌≡◌, ℕ, ◌≤◌, ◌==◌, Bool, List, [], ◌∷◌, ◌++◌, length, take, drop, codes, IsTrue, false, ◌+◌, ◌-◌, ◌*◌, ◌||◌, slice_index}
use Rattle.std.specs.Str.{bytes_eq}
use Rattle.hex.specs.Hex.{encode_upper}
use Rattle.xfs_token.specs.Token.{Parts, IsMac, IsWellFormed, form, is_nonce, is_value, is_free_key, may_follow, four_digits}
use Rattle.xfs_token.specs.declared.faults.Stop.{Stop}
use Rattle.xfs_token.specs.declared.faults.Stop.TheVariants.{Left, Memory}

-- no text of the language goes on from here as this rest does
abbrev pub Stops : (List ℕ → Type 0) → List ℕ → List ℕ → Type 0
Stops L good [] = ¬ (L good)
Stops L good (b ∷ bs) = (more : List ℕ) → ¬ (L (good ++ b ∷ more))

-- a text, with so many bytes left where its longest front that begins a text of the language ends
pub record IsStuck (L : List ℕ → Type 0) (text : List ℕ) (left : ℕ) : Type 0 where
  pub good : List ℕ
  pub bad : List ℕ
  pub cut : text ≡ good ++ bad
  pub left_is : length bad ≡ left
  pub more : List ℕ
  pub begins : L (good ++ more)
  pub stops : Stops L good bad

-- a word, and behind it a text of the language
pub record WordThen (word : List ℕ) (L : List ℕ → Type 0) (text : List ℕ) : Type 0 where
  pub rest : List ℕ
  pub is : text ≡ word ++ rest
  pub then : L rest

-- from behind a comma on: the pairs that are left, each with its comma behind it, and the HMAC
abbrev pub tail_text : List (List ℕ × List ℕ) → List ℕ → List ℕ
tail_text [] mac = codes "HMACSHA256=" ++ encode_upper mac
tail_text (p ∷ ps) mac = p.0 ++ 61 ∷ (p.1 ++ 44 ∷ tail_text ps mac)

-- what may stand behind the comma after these pairs
pub record Tail (earlier : List (List ℕ × List ℕ)) (text : List ℕ) : Type 0 where
  pub pairs : List (List ℕ × List ℕ)
  pub mac : List ℕ
  pub follow : IsTrue (may_follow earlier pairs)
  pub is_mac : IsMac mac
  pub is : text ≡ tail_text pairs mac

-- what may stand behind the equals sign of the HMAC
pub record MacEnd (text : List ℕ) : Type 0 where
  pub mac : List ℕ
  pub is_mac : IsMac mac
  pub is : text ≡ encode_upper mac

-- what may stand behind the equals sign of a key
pub record ValueThen (earlier : List (List ℕ × List ℕ)) (key text : List ℕ) : Type 0 where
  pub value : List ℕ
  pub rest : List ℕ
  pub good : IsTrue (is_value value)
  pub is : text ≡ value ++ 44 ∷ rest
  pub then : Tail (earlier ++ (key, value) ∷ []) rest

-- the four digits of the length, a comma and the tail
pub record LengthThen (text : List ℕ) : Type 0 where
  pub number : ℕ
  pub rest : List ℕ
  pub small : number ≤ 9999
  pub is : text ≡ four_digits number ++ 44 ∷ rest
  pub then : Tail [] rest

-- a nonce, a comma and what follows
pub record NonceThen (text : List ℕ) : Type 0 where
  pub nonce : List ℕ
  pub rest : List ℕ
  pub good : IsTrue (is_nonce nonce)
  pub is : text ≡ nonce ++ 44 ∷ rest
  pub then : WordThen (codes "TOKENFORMAT=1,TOKENLENGTH=") LengthThen rest

-- whether a text begins with a byte
abbrev pub first_is : ℕ → List ℕ → Bool
first_is byte [] = false
first_is byte (b ∷ bs) = b == byte

-- whether a text begins with a byte that passes a test
abbrev pub first_in : (ℕ → Bool) → List ℕ → Bool
first_in p [] = false
first_in p (b ∷ bs) = p b

-- a nonce stands here, and a comma behind it
pub record IsNonceAt (text : List ℕ) (n : ℕ) : Type 0 where
  pub good : IsTrue (is_nonce (take n text))
  pub is : text ≡ take n text ++ 44 ∷ drop (n + 1) text

-- a key that may follow the pairs stands here, or that of the HMAC, and an equals sign behind it
pub record IsKeyAt (earlier : List (List ℕ × List ℕ)) (text : List ℕ) (n : ℕ) : Type 0 where
  pub good : IsTrue (bytes_eq (take n text) (codes "HMACSHA256") || is_free_key (take n text) earlier)
  pub is : text ≡ take n text ++ 61 ∷ drop (n + 1) text

-- a value stands here, and a comma behind it
pub record IsValueAt (text : List ℕ) (n : ℕ) : Type 0 where
  pub good : IsTrue (is_value (take n text))
  pub is : text ≡ take n text ++ 44 ∷ drop (n + 1) text

-- four digits of this number stand here, and a comma behind them
pub record IsLengthAt (text : List ℕ) (number : ℕ) : Type 0 where
  pub small : number ≤ 9999
  pub is : text ≡ four_digits number ++ 44 ∷ drop 5 text

-- the number that four digits write
abbrev pub decimal_number : List ℕ → ℕ
decimal_number ds = 1000 * (slice_index ds 0 - 48) + 100 * (slice_index ds 1 - 48) + 10 * (slice_index ds 2 - 48) + (slice_index ds 3 - 48)

-- the format and a length field of this number stand here
pub record IsFormatAt (text : List ℕ) (number : ℕ) : Type 0 where
  pub small : number ≤ 9999
  pub is : text ≡ codes "TOKENFORMAT=1,TOKENLENGTH=" ++ (four_digits number ++ 44 ∷ drop 31 text)

-- a text of the form of a token, from its first byte on
abbrev pub Loose : List ℕ → Type 0
Loose text = WordThen (codes "NONCE=") NonceThen text

-- a nonce, a comma and this rest
pub record IsNonceThen (text nonce rest : List ℕ) : Type 0 where
  pub good : IsTrue (is_nonce nonce)
  pub is : text ≡ nonce ++ 44 ∷ rest

-- all that stands before the pairs, with this number in the length field, and this rest
pub record IsFront (text nonce : List ℕ) (number : ℕ) (rest : List ℕ) : Type 0 where
  pub good : IsTrue (is_nonce nonce)
  pub small : number ≤ 9999
  pub is : text ≡ codes "NONCE=" ++ (nonce ++ 44 ∷ (codes "TOKENFORMAT=1,TOKENLENGTH=" ++ (four_digits number ++ 44 ∷ rest)))

-- a key that may follow the pairs, or that of the HMAC, an equals sign and this rest
pub record IsKeyThen (earlier : List (List ℕ × List ℕ)) (text key rest : List ℕ) : Type 0 where
  pub good : IsTrue (bytes_eq key (codes "HMACSHA256") || is_free_key key earlier)
  pub is : text ≡ key ++ 61 ∷ rest

-- a value, a comma and this rest
pub record IsValueThen (text value rest : List ℕ) : Type 0 where
  pub good : IsTrue (is_value value)
  pub is : text ≡ value ++ 44 ∷ rest

-- the text is that of the pairs and the HMAC of a token with this nonce
pub record IsTailOf (text nonce : List ℕ) (t : Parts) : Type 0 where
  pub formed : IsWellFormed t
  pub nonce_kept : t.nonce ≡ nonce
  pub is : text ≡ tail_text t.pairs t.mac

-- the text has the form of this token, with this number in its length field
pub record IsLooseAs (text : List ℕ) (t : Parts) (number : ℕ) : Type 0 where
  pub formed : IsWellFormed t
  pub small : number ≤ 9999
  pub is : text ≡ form t number

-- where the text is stuck; memory may be wanting anywhere
abbrev pub IsStopped : (List ℕ → Type 0) → List ℕ → Stop → Type 0
IsStopped L text (Left left) = IsStuck L text left
IsStopped L text Memory = Unit {0}

-- an equals sign is the last byte
pub record EndsEqual (text : List ℕ) : Type 0 where
  pub front : List ℕ
  pub is : text ≡ front ++ codes "="
