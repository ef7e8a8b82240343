-- Why a text is no evidence under a key with a nonce, the first that applies: it spells no token, the token carries another nonce, its HMAC isn't that of its bytes, or its pairs aren't those of an evidence.
use Rattle.std.specs.Prelude.{◌≡◌, ◌≢◌, ℕ, List, ⊤}
use Rattle.xfs_token.specs.Token.{Parts, Spells, Genuine}
use Rattle.xfs_evidence.specs.Told.{AreEvidencePairs}
use Rattle.xfs_evidence.specs.declared.faults.CheckFault.{CheckFault}
use Rattle.xfs_evidence.specs.declared.faults.CheckFault.TheVariants.{NoToken, OtherNonce, WrongMac, NotEvidence, Memory}

-- the text spells a token with another nonce
pub record HasOtherNonce (nonce bytes : List ℕ) : Type 0 where
  pub token : Parts
  pub spelled : Spells token bytes
  pub other : token.nonce ≢ nonce

-- the text spells a token with this nonce, which isn't genuine
pub record HasWrongMac (key nonce bytes : List ℕ) : Type 0 where
  pub token : Parts
  pub spelled : Spells token bytes
  pub carried : token.nonce ≡ nonce
  pub wrong : ¬ (Genuine key token bytes)

-- the text is a genuine token with this nonce, whose pairs are no evidence's
pub record HasOtherPairs (key nonce bytes : List ℕ) : Type 0 where
  pub token : Parts
  pub genuine : Genuine key token bytes
  pub carried : token.nonce ≡ nonce
  pub other : (issue : ℕ) (amounts : List (List ℕ × ℕ)) → ¬ (AreEvidencePairs token.pairs issue amounts)

-- what each refusal says of the text; no two of them hold of one, nor one and that it is an evidence
abbrev pub IsCheckFault : List ℕ → List ℕ → List ℕ → CheckFault → Type 0
IsCheckFault key nonce bytes NoToken = (token : Parts) → ¬ (Spells token bytes)
IsCheckFault key nonce bytes OtherNonce = HasOtherNonce nonce bytes
IsCheckFault key nonce bytes WrongMac = HasWrongMac key nonce bytes
IsCheckFault key nonce bytes NotEvidence = HasOtherPairs key nonce bytes
IsCheckFault key nonce bytes Memory = ⊤
