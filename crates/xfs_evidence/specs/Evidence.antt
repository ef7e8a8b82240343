-- What an evidence is: a genuine token whose pairs tell the number of the last Issue, and what was presented in its segment.
use Rattle.std.specs.Prelude.{◌≡◌, ℕ, ◌+◌, ◌&&◌, not, Bool, true, false, IsTrue, List, [], ◌∷◌, ◌++◌, length, Some, None, Err, MatchResult, unwrap_or, if◌then◌else◌, ⊤}
use Rattle.std.specs.declared.option.Option.{Option}
use Rattle.std.specs.declared.result.Result.{Result}
use Rattle.std.specs.Option.{option_map}
use Rattle.xfs_base.specs.declared.counts.Kind.TheVariants.{Present}
use Rattle.xfs_base.specs.declared.money.NoteKind.{NoteKind}
use Rattle.xfs_mech.specs.declared.motion.Motion.{Motion}
use Rattle.xfs_token.specs.Token.{Parts, Genuine, may_follow, pairs_text}
use Rattle.xfs_token.specs.Amounts.{amount_in}
use Rattle.xfs_journal.specs.declared.record.Rec.{Rec}
use Rattle.xfs_journal.specs.declared.record.Rec.TheVariants.{Order, Done}
use Rattle.xfs_guard.specs.Agrees.{Agrees}
use Rattle.xfs_guard.specs.Segment.{has_issue, last_issue, issue_of, segment, presented_last}
use Rattle.xfs_guard.specs.Within.{shown}
use Rattle.xfs_evidence.specs.Told.{AreEvidencePairs}
use Rattle.xfs_evidence.specs.declared.shown.Shown.{Shown}
use Rattle.xfs_evidence.specs.declared.faults.EvidenceFault.{EvidenceFault}
use Rattle.xfs_evidence.specs.declared.faults.EvidenceFault.TheVariants.{NoIssue, Unsettled, Memory}

-- an order to present
abbrev pub is_present : Rec → Bool
is_present (Order Present counts) = true
is_present r = false

-- a Done stands first
abbrev pub begins_done : List Rec → Bool
begins_done (Done moved diverted ∷ behind) = true
begins_done records = false

-- an order to present that no Done follows directly
abbrev pub is_unsettled : Rec → List Rec → Bool
is_unsettled r behind = is_present r && not (begins_done behind)

-- the number of the first of them, where the records' numbers begin with this one
abbrev pub first_open : ℕ → List Rec → Option ℕ
first_open number [] = None
first_open number (r ∷ behind) = if is_unsettled r behind then Some number else first_open (number + 1) behind

-- the number of the first order to present without a Done in the segment of the last Issue, where so many records stand in front of the list
abbrev pub open_order : ℕ → List Rec → Option ℕ
open_order base records = first_open (base + last_issue records + 1) (segment records)

-- why there is no evidence: no Issue, or an order to present in its segment that has no Done
abbrev pub evidence_refusal : ℕ → List Rec → Option EvidenceFault
evidence_refusal base records = if has_issue records then option_map (λ number. Unsettled number) (open_order base records) else Some NoIssue

-- this refusal is the answer; where there is none, only memory may be wanting
abbrev pub MakesUnless : {T : Type 0} → Option EvidenceFault → Result T EvidenceFault → Type 0
MakesUnless (Some fault) result = result ≡ Err fault
MakesUnless None result = MatchResult result (λ _. ⊤) (λ fault. fault ≡ Memory)

-- amounts, where there are some
abbrev pub unless_none : List (List ℕ × ℕ) → Option (List (List ℕ × ℕ))
unless_none [] = None
unless_none (a ∷ rest) = Some (a ∷ rest)

-- what is told in a currency; 0 where nothing is
abbrev pub amount_told : Shown → List ℕ → ℕ
amount_told s currency = amount_in (unwrap_or s.amounts []) currency

-- a token of these parts has this nonce, and this text writes its pairs
pub record IsWrittenAs (parts : Parts) (nonce pairs : List ℕ) : Type 0 where
  pub nonce_is : parts.nonce ≡ nonce
  pub follow : IsTrue (may_follow [] parts.pairs)
  pub text : pairs ≡ pairs_text parts.pairs

-- the bytes are a genuine token with the nonce and the pairs of these parts
pub record IsSigned (key : List ℕ) (parts : Parts) (bytes : List ℕ) : Type 0 where
  pub token : Parts
  pub genuine : Genuine key token bytes
  pub carried : token.nonce ≡ parts.nonce
  pub pairs : token.pairs ≡ parts.pairs

-- the pairs of an evidence tell what is shown by it
pub record IsToldBy (pairs : List (List ℕ × List ℕ)) (s : Shown) : Type 0 where
  pub amounts : List (List ℕ × ℕ)
  pub tells : AreEvidencePairs pairs s.issue amounts
  pub amounts_are : s.amounts ≡ unless_none amounts

-- the bytes are a genuine token with this nonce, whose pairs tell this
pub record IsTold (key nonce bytes : List ℕ) (s : Shown) : Type 0 where
  pub token : Parts
  pub genuine : Genuine key token bytes
  pub carried : token.nonce ≡ nonce
  pub by : IsToldBy token.pairs s

-- what is told is the number of the last Issue, and for each currency what was presented in its segment
pub record TellsSegment (units : List NoteKind) (records : List Rec) (s : Shown) : Type 0 where
  pub issue : issue_of records ≡ Some s.issue
  pub presented : (currency : List ℕ) → amount_told s currency ≡ presented_last units records currency

-- an evidence of these records under the key, with this nonce
pub record IsEvidence (key : List ℕ) (units : List NoteKind) (records : List Rec) (nonce bytes : List ℕ) : Type 0 where
  pub shown : Shown
  pub told : IsTold key nonce bytes shown
  pub is : TellsSegment units records shown

-- what is told is the number of the last Issue, and for each currency what the mechanism put out since then
pub record TellsPutOut (units : List NoteKind) (records : List Rec) (motions : List Motion) (s : Shown) : Type 0 where
  pub issue : issue_of records ≡ Some s.issue
  pub put_out : (currency : List ℕ) → amount_told s currency ≡ shown units records motions (last_issue records) currency

-- an evidence of what the mechanism did
pub record IsEvidenceOf (key : List ℕ) (units : List NoteKind) (records : List Rec) (motions : List Motion) (nonce bytes : List ℕ) : Type 0 where
  pub shown : Shown
  pub told : IsTold key nonce bytes shown
  pub is : TellsPutOut units records motions shown

-- wherever these records stand behind so many others, and the whole list agrees with the mechanism's, the bytes are an evidence of what the mechanism did
abbrev pub IsEvidenceBehind : ℕ → List ℕ → List NoteKind → List Rec → List ℕ → List ℕ → Type 0
IsEvidenceBehind base key units records nonce bytes = (front : List Rec) (motions : List Motion) → length front ≡ base → Agrees (front ++ records) motions
    → IsEvidenceOf key units (front ++ records) motions nonce bytes
