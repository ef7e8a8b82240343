-- Why a text is no token: it is too long, it has the form of a token with another length in its field, or no token's text goes on from its longest good front.
use Rattle.std.specs.Prelude.{◌≡◌, ℕ, ◌<◌, ◌≤◌, ◌⊎◌, List, [], ◌∷◌, ◌++◌, length, take, drop, codes}
use Rattle.xfs_token.specs.Token.{Parts, IsWellFormed, Spells, form}
use Rattle.xfs_token.specs.declared.faults.TokenFault.{TokenFault}
use Rattle.xfs_token.specs.declared.faults.TokenFault.TheVariants.{TooLong, KeyNoValue, Format, Memory}

-- a text of the form of a token, whatever number of four digits its length field has
pub record IsLoose (bytes : List ℕ) : Type 0 where
  pub token : Parts
  pub number : ℕ
  pub formed : IsWellFormed token
  pub small : number ≤ 9999
  pub text : bytes ≡ form token number

-- some loose token begins with these bytes
pub record BeginsLoose (front : List ℕ) : Type 0 where
  pub rest : List ℕ
  pub loose : IsLoose (front ++ rest)

-- the text is no loose token, and its first `at` bytes are its longest front that begins one
pub record IsStuckAt (bytes : List ℕ) (at : ℕ) : Type 0 where
  pub no_token : ¬ (IsLoose bytes)
  pub within : at ≤ length bytes
  pub begins : BeginsLoose (take at bytes)
  pub longest : (n : ℕ) → n ≤ length bytes → BeginsLoose (take n bytes) → n ≤ at

-- these bytes are none, or begin with a comma
abbrev pub IsEndOrComma : List ℕ → Type 0
IsEndOrComma [] = Unit {0}
IsEndOrComma (b ∷ bs) = b ≡ 44

-- a key's equals sign ends at this place, and no value stands behind it
pub record LacksValue (bytes : List ℕ) (at : ℕ) : Type 0 where
  pub front : List ℕ
  pub ends : take at bytes ≡ front ++ codes "="
  pub after : IsEndOrComma (drop at bytes)

-- a loose token whose four digits, which begin at this place, are not its length
pub record HasWrongLength (bytes : List ℕ) (at : ℕ) : Type 0 where
  pub loose : IsLoose bytes
  pub no_token : (t : Parts) → ¬ (Spells t bytes)
  pub place : at ≡ length (codes "NONCE=" ++ loose.token.nonce ++ codes ",TOKENFORMAT=1,TOKENLENGTH=")

-- the fault of a text
abbrev pub IsFault : List ℕ → TokenFault → Type 0
IsFault bytes TooLong = 1024 < length bytes
IsFault bytes (KeyNoValue at) = (length bytes ≤ 1024) × IsStuckAt bytes at × LacksValue bytes at
IsFault bytes (Format at) = (length bytes ≤ 1024) × (HasWrongLength bytes at ⊎ (IsStuckAt bytes at × ¬ (LacksValue bytes at)))
IsFault bytes Memory = Unit {0}
