-- What a command of the dispenser completes with.
use Rattle.std.specs.Prelude.{◌≡◌, ℕ, Some, None}
use Rattle.std.specs.declared.option.Option.{Option}
use Rattle.serde_json.specs.Data.{Data}
use Rattle.serde_json.specs.View.{view}
use Rattle.serde_json.specs.declared.value.Value.{Value}
use Rattle.xfs_common.specs.Errors.{error_text}
use Rattle.xfs_common.specs.Payloads.{nothing, error_payload, record_payload}
use Rattle.xfs_common.specs.declared.error.ErrorCode.{ErrorCode}
use Rattle.xfs_common.specs.declared.error.ErrorCode.TheVariants.{NoItems, NotDispensable}
use Rattle.xfs_envelope.specs.declared.code.Code.{Code}
use Rattle.xfs_guard.specs.declared.deny.Deny.{Deny}
use Rattle.xfs_guard.specs.declared.deny.Deny.TheVariants.{Shut, Full, TooLong, KeyNoValue, Format, NoNonce, WrongNonce, WrongMac, NoAmounts, OtherBound, NotEmpty, OverBudget, Unbound, Nothing, OutletFull, Short, Disk, Memory}
use Rattle.xfs_dispenser.specs.declared.begun.Begun.{Begun}
use Rattle.xfs_dispenser.specs.declared.begun.Begun.TheVariants as begun
use Rattle.xfs_dispenser.specs.declared.plan.Plan.{Plan}
use Rattle.xfs_dispenser.specs.declared.progress.Progress.{Progress}
use Rattle.xfs_dispenser.specs.declared.progress.Progress.TheVariants as progress
use Rattle.xfs_dispenser.specs.declared.refusal.Refusal.{Refusal}
use Rattle.xfs_dispenser.specs.declared.refusal.Refusal.TheVariants as refusal

-- a completion code, and the payload
pub record CashAnswer : Type 0 where
  pub code : Code
  pub payload : Data

-- a code with a payload as it was made
abbrev pub answered : Code → Value → CashAnswer
answered code payload = record { code = code; payload = view payload }

-- an answer with the payload {}
abbrev pub plain_answer : Code → CashAnswer
plain_answer code = record { code = code; payload = nothing }

-- the answer that tells an error of the command
abbrev pub error_answer : ErrorCode → CashAnswer
error_answer fault = record { code = Code.CommandErrorCode; payload = error_payload (error_text fault) }

-- an answer with the number of the record that explains it
abbrev pub record_answer : Code → ℕ → CashAnswer
record_answer code since = record { code = code; payload = record_payload since }

-- what a refusal of the guard is answered; want of memory is no answer
abbrev pub denial : Deny → Option CashAnswer
denial Shut = Some (plain_answer Code.DeviceNotReady)
denial Full = Some (plain_answer Code.DeviceNotReady)
denial Disk = Some (plain_answer Code.DeviceNotReady)
denial TooLong = Some (plain_answer Code.NotEnoughSpace)
denial (KeyNoValue at) = Some (plain_answer Code.InvalidTokenKeyNoValue)
denial (Format at) = Some (plain_answer Code.InvalidTokenFormat)
denial (NoNonce since) = Some (record_answer Code.NoCommandNonce since)
denial (WrongNonce since) = Some (record_answer Code.InvalidTokenNonce since)
denial (WrongMac due) = Some (plain_answer Code.InvalidTokenHmac)
denial NoAmounts = Some (plain_answer Code.InvalidTokenFormat)
denial (OtherBound since) = Some (plain_answer Code.InvalidToken)
denial (NotEmpty notes) = Some (plain_answer Code.SequenceError)
denial (OverBudget currency left) = Some (plain_answer Code.InvalidToken)
denial (Unbound since) = Some (plain_answer Code.AuthorisationRequired)
denial Nothing = Some (error_answer NoItems)
denial (OutletFull notes) = Some (plain_answer Code.SequenceError)
denial (Short unit) = Some (error_answer NotDispensable)
denial Memory = None

-- what a refusal is answered
abbrev pub answer_of : Refusal → Option CashAnswer
answer_of refusal.InvalidData = Some (plain_answer Code.InvalidData)
answer_of refusal.NoToken = Some (plain_answer Code.AuthorisationRequired)
answer_of (refusal.Error fault) = Some (error_answer fault)
answer_of (refusal.Deny deny) = denial deny
answer_of refusal.Memory = None

-- what a command has begun with, its payload seen as its value: its answer, or its plan
pub data Start : Type 0 where
  told : CashAnswer → Start
  planned : Plan → Start

abbrev pub start_of : Begun → Start
start_of (begun.Result code payload) = told (answered code payload)
start_of (begun.Plan plan) = planned plan

-- the payload that a start tells, where the command is over
abbrev pub start_payload : Start → Option Data
start_payload (told answer) = Some answer.payload
start_payload (planned plan) = None

-- what a step has come to: there is more to do, or the answer
pub data Went : Type 0 where
  more : Went
  done : CashAnswer → Went

abbrev pub went_of : Progress → Went
went_of progress.More = more
went_of (progress.Result code payload) = done (answered code payload)

-- the payload that a step tells, where the command is over
abbrev pub went_payload : Went → Option Data
went_payload more = None
went_payload (done answer) = Some answer.payload

-- the answer is that of a refusal of the guard
pub record IsDenial (deny : Deny) (went : Went) : Type 0 where
  pub answer : CashAnswer
  pub due : denial deny ≡ Some answer
  pub is : went ≡ done answer
