-- The lines of the command `token`: the bytes that write each verb with its fields.
use Rattle.std.specs.Prelude.{◌≡◌, ℕ, ◌⊎◌, IsTrue, List, [], ◌∷◌, ◌++◌, codes, Ok}
use Rattle.hex.specs.Hex.{decode_of}
use Rattle.xfs_token.specs.Token.{is_nonce}
use Rattle.xfs_script.specs.Words.{IsSkipped}
use Rattle.xfs_script.specs.Fields.{fields, SpellsAmounts}
use Rattle.xfs_script.specs.declared.token_line.TokenLine.{TokenLine}
use Rattle.xfs_script.specs.declared.token_line.TokenLine.TheVariants.{Skip, Read, Make, Mac}

-- the fields are `make`, a nonce and the one of these amounts
pub record IsMake (text nonce : List ℕ) (amounts : List (List ℕ × ℕ)) : Type 0 where
  pub field : List ℕ
  pub line : fields text ≡ codes "make" ∷ nonce ∷ field ∷ []
  pub valid : IsTrue (is_nonce nonce)
  pub spells : SpellsAmounts field amounts

-- two hexadecimal digits a byte, of either case; `-` stands for no bytes too
abbrev pub IsHex : List ℕ → List ℕ → Type 0
IsHex field bytes = ((field ≡ codes "-") × (bytes ≡ [])) ⊎ (decode_of field ≡ Ok bytes)

-- the fields are `mac` and those of these bytes
pub record IsMac (text key message : List ℕ) : Type 0 where
  pub first : List ℕ
  pub second : List ℕ
  pub line : fields text ≡ codes "mac" ∷ first ∷ second ∷ []
  pub key_is : IsHex first key
  pub message_is : IsHex second message

-- the text is this line
abbrev pub IsTokenLine : List ℕ → TokenLine → Type 0
IsTokenLine text Skip = IsSkipped text
IsTokenLine text (Read bytes) = text ≡ codes "read " ++ bytes
IsTokenLine text (Make nonce amounts) = IsMake text nonce amounts
IsTokenLine text (Mac key message) = IsMac text key message
