-- What GetPresentStatus tells, from what an evidence was or why there is none.
use Rattle.std.proofs.Common.{◌≡◌, ℕ, List, Option, None, Some, Result, Ok, Err, refl}
use Rattle.std.specs.Prelude.{drop}
use Rattle.xfs_common.specs.Payloads.{present_status_payload}
use Rattle.xfs_common.specs.declared.error.ErrorCode.TheVariants as errors
use Rattle.xfs_evidence.specs.Evidence.{IsEvidence, MakesUnless}
use Rattle.xfs_evidence.specs.declared.faults.EvidenceFault.{EvidenceFault}
use Rattle.xfs_evidence.specs.declared.faults.EvidenceFault.TheVariants.{NoIssue, Unsettled, Memory}
use Rattle.xfs_guard.specs.View.{View}
use Rattle.xfs_model.specs.PresentStatus.{TellsUnless}
use Rattle.xfs_model.specs.Results.{error, success}
use Rattle.xfs_model.specs.State.{Outcome}

pub tells_token : {T : Type 0} (v : View) (text token : List ℕ) (why : Option EvidenceFault) (made : T) → MakesUnless why (Ok made) → IsEvidence v.key v.units (drop v.base v.records) text token
    → (result : Outcome) → result ≡ success (present_status_payload token) → TellsUnless v text result why
tells_token v text token None made refused evidence result is = record { token = token; evidence = evidence; is = is }
tells_token v text token (Some fault) made refused evidence result is = absurd cc

pub tells_no_issue : (T : Type 0) (v : View) (text : List ℕ) (why : Option EvidenceFault) → MakesUnless {T = T} why (Err NoIssue) → (result : Outcome) → result ≡ error errors.NoIssue → TellsUnless v text result why
tells_no_issue T v text None refused result is = absurd cc
tells_no_issue T v text (Some NoIssue) refused result is = is
tells_no_issue T v text (Some (Unsettled order)) refused result is = absurd cc
tells_no_issue T v text (Some Memory) refused result is = absurd cc

pub tells_unsettled : (T : Type 0) (v : View) (text : List ℕ) (why : Option EvidenceFault) (order : ℕ) → MakesUnless {T = T} why (Err (Unsettled order)) → (result : Outcome) → result ≡ error errors.Unsettled → TellsUnless v text result why
tells_unsettled T v text None order refused result is = absurd cc
tells_unsettled T v text (Some NoIssue) order refused result is = absurd cc
tells_unsettled T v text (Some (Unsettled other)) order refused result is = is
tells_unsettled T v text (Some Memory) order refused result is = absurd cc
