-- What is true of every evidence.
use Rattle.std.specs.Prelude.{◌≡◌, ◌≢◌, ℕ, List, ◌++◌, None}
use Rattle.xfs_base.specs.declared.money.NoteKind.{NoteKind}
use Rattle.xfs_mech.specs.declared.motion.Motion.{Motion}
use Rattle.xfs_journal.specs.declared.record.Rec.{Rec}
use Rattle.xfs_guard.specs.Agrees.{Agrees}
use Rattle.xfs_evidence.specs.Check.{IsCheckFault}
use Rattle.xfs_evidence.specs.Evidence.{IsTold, IsEvidence, IsEvidenceOf, evidence_refusal}
use Rattle.xfs_evidence.specs.declared.faults.CheckFault.{CheckFault}
use Rattle.xfs_evidence.specs.declared.faults.CheckFault.TheVariants.{Memory}
use Rattle.xfs_evidence.specs.declared.shown.Shown.{Shown}

-- one text tells one thing under a key with a nonce
abbrev pub AreOne : Type 0
AreOne = (key nonce bytes : List ℕ) (s t : Shown) → IsTold key nonce bytes s → IsTold key nonce bytes t → s ≡ t

-- what is told isn't refused, but for want of memory
abbrev pub AreTaken : Type 0
AreTaken = (key nonce bytes : List ℕ) (s : Shown) (fault : CheckFault) → IsTold key nonce bytes s → IsCheckFault key nonce bytes fault → fault ≡ Memory

-- one text has one refusal
abbrev pub AreRefusedOnce : Type 0
AreRefusedOnce = (key nonce bytes : List ℕ) (e f : CheckFault) → IsCheckFault key nonce bytes e → IsCheckFault key nonce bytes f → e ≢ Memory → f ≢ Memory → e ≡ f

-- an evidence of the last records of a list that agrees with what the mechanism did is one of what it did
abbrev pub ArePutOut : Type 0
ArePutOut = (key : List ℕ) (units : List NoteKind) (base : ℕ) (front records : List Rec) (motions : List Motion) (nonce bytes : List ℕ) → IsEvidence key units records nonce bytes → evidence_refusal base records ≡ None
    → Agrees (front ++ records) motions → IsEvidenceOf key units (front ++ records) motions nonce bytes
