-- The texts of the completion codes and of the statuses of an acknowledge.
use Rattle.std.specs.Prelude.{ℕ, List, [], ◌∷◌, codes, find}
use Rattle.std.specs.declared.option.Option.{Option}
use Rattle.std.specs.Str.{bytes_eq}
use Rattle.xfs_envelope.specs.declared.code.Code.{Code}
use Rattle.xfs_envelope.specs.declared.code.Code.TheVariants.{Success, CommandErrorCode, Canceled, TimeOut, DeviceNotReady, HardwareError, InvalidCommand, InvalidData, UnsupportedData, SequenceError, AuthorisationRequired, NoCommandNonce, InvalidToken, InvalidTokenNonce, InvalidTokenHmac, InvalidTokenFormat, InvalidTokenKeyNoValue, NotEnoughSpace, InternalError, UnsupportedCommand, UserError, FraudAttempt}
use Rattle.xfs_envelope.specs.declared.code.Status.{Status}
use Rattle.xfs_envelope.specs.declared.code.Status.TheVariants.{InvalidMessage, InvalidRequestId, TooManyRequests}

abbrev pub code_text : Code → List ℕ
code_text Success = codes "success"
code_text CommandErrorCode = codes "commandErrorCode"
code_text Canceled = codes "canceled"
code_text TimeOut = codes "timeOut"
code_text DeviceNotReady = codes "deviceNotReady"
code_text HardwareError = codes "hardwareError"
code_text InvalidCommand = codes "invalidCommand"
code_text InvalidData = codes "invalidData"
code_text UnsupportedData = codes "unsupportedData"
code_text SequenceError = codes "sequenceError"
code_text AuthorisationRequired = codes "authorisationRequired"
code_text NoCommandNonce = codes "noCommandNonce"
code_text InvalidToken = codes "invalidToken"
code_text InvalidTokenNonce = codes "invalidTokenNonce"
code_text InvalidTokenHmac = codes "invalidTokenHMAC"
code_text InvalidTokenFormat = codes "invalidTokenFormat"
code_text InvalidTokenKeyNoValue = codes "invalidTokenKeyNoValue"
code_text NotEnoughSpace = codes "notEnoughSpace"
code_text InternalError = codes "internalError"
code_text UnsupportedCommand = codes "unsupportedCommand"
code_text UserError = codes "userError"
code_text FraudAttempt = codes "fraudAttempt"

abbrev pub all_codes : List Code
all_codes = Success ∷ CommandErrorCode ∷ Canceled ∷ TimeOut ∷ DeviceNotReady ∷ HardwareError ∷ InvalidCommand ∷ InvalidData ∷ UnsupportedData ∷ SequenceError ∷ AuthorisationRequired ∷ NoCommandNonce ∷ InvalidToken ∷ InvalidTokenNonce ∷ InvalidTokenHmac ∷ InvalidTokenFormat ∷ InvalidTokenKeyNoValue ∷ NotEnoughSpace ∷ InternalError ∷ UnsupportedCommand ∷ UserError ∷ FraudAttempt ∷ []

-- the code that has this text
abbrev pub code_of : List ℕ → Option Code
code_of text = find (λ c. bytes_eq (code_text c) text) all_codes

abbrev pub status_text : Status → List ℕ
status_text InvalidMessage = codes "invalidMessage"
status_text InvalidRequestId = codes "invalidRequestID"
status_text TooManyRequests = codes "tooManyRequests"

-- the status that has this text
abbrev pub status_of : List ℕ → Option Status
status_of text = find (λ s. bytes_eq (status_text s) text) (InvalidMessage ∷ InvalidRequestId ∷ TooManyRequests ∷ [])
