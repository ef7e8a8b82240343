-- The command GetPresentStatus: a token tells what was presented under the last nonce. It looks at the nonce, the Issue and the orders to present, and at nothing else.
use Rattle.std.specs.Prelude.{◌≡◌, ℕ, List, codes, drop, Option, None, Some, Result, Ok, Err, if◌then◌else◌}
use Rattle.serde_json.specs.Data.{Data}
use Rattle.serde_json.specs.Find.{as_str}
use Rattle.xfs_common.specs.Payloads.{present_status_payload}
use Rattle.xfs_common.specs.declared.error.ErrorCode.TheVariants as errors
use Rattle.xfs_envelope.specs.declared.code.Code.TheVariants.{InvalidData}
use Rattle.xfs_evidence.specs.Evidence.{IsEvidence, evidence_refusal}
use Rattle.xfs_evidence.specs.declared.faults.EvidenceFault.{EvidenceFault}
use Rattle.xfs_evidence.specs.declared.faults.EvidenceFault.TheVariants.{NoIssue, Unsettled, Memory}
use Rattle.xfs_guard.specs.View.{View}
use Rattle.xfs_json.specs.Members.{member_as, member_of}
use Rattle.xfs_json.specs.declared.members.Shape.{Shape}
use Rattle.xfs_token.specs.Token.{is_nonce}
use Rattle.xfs_model.specs.Results.{error, plain, success}
use Rattle.xfs_model.specs.State.{Outcome}

-- a text, where it is a nonce
abbrev pub nonce_where : Result (Option (List ℕ)) Shape → Option (List ℕ)
nonce_where (Err shape) = None
nonce_where (Ok None) = None
nonce_where (Ok (Some text)) = if is_nonce text then Some text else None

-- the nonce that its members name; None where they are bad
abbrev pub nonce_in : Data → Option (List ℕ)
nonce_in payload = nonce_where (member_as as_str (member_of (codes "nonce") payload))

-- a token is told: an evidence of the records in memory, with this nonce
pub record TellsEvidence (v : View) (nonce : List ℕ) (result : Outcome) : Type 0 where
  pub token : List ℕ
  pub evidence : IsEvidence v.key v.units (drop v.base v.records) nonce token
  pub is : result ≡ success (present_status_payload token)

-- an evidence, or the error that says why there is none
abbrev pub TellsUnless : View → List ℕ → Outcome → Option EvidenceFault → Type 0
TellsUnless v nonce result None = TellsEvidence v nonce result
TellsUnless v nonce result (Some NoIssue) = result ≡ error errors.NoIssue
TellsUnless v nonce result (Some (Unsettled order)) = result ≡ error errors.Unsettled
TellsUnless v nonce result (Some Memory) = ⊥

-- what the command comes to, by the nonce of its members
abbrev pub TellsPresented : View → Option (List ℕ) → Outcome → Type 0
TellsPresented v None result = result ≡ plain InvalidData
TellsPresented v (Some nonce) result = TellsUnless v nonce result (evidence_refusal v.base (drop v.base v.records))
