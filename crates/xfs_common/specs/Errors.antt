-- The texts of the errors that commands complete with.
use Rattle.std.specs.Prelude.{ℕ, List, codes}
use Rattle.xfs_common.specs.declared.error.ErrorCode.{ErrorCode}
use Rattle.xfs_common.specs.declared.error.ErrorCode.TheVariants.{ExchangeActive, NoItems, NotDispensable, TooManyItems, InvalidCurrency, InvalidDenomination, NoExchangeActive, InvalidUnit, StorageFull, NoMatchingRequestIds, NoMedia, NoIssue, Unsettled}

abbrev pub error_text : ErrorCode → List ℕ
error_text ExchangeActive = codes "exchangeActive"
error_text NoItems = codes "noItems"
error_text NotDispensable = codes "notDispensable"
error_text TooManyItems = codes "tooManyItems"
error_text InvalidCurrency = codes "invalidCurrency"
error_text InvalidDenomination = codes "invalidDenomination"
error_text NoExchangeActive = codes "noExchangeActive"
error_text InvalidUnit = codes "invalidUnit"
error_text StorageFull = codes "storageFull"
error_text NoMatchingRequestIds = codes "noMatchingRequestIDs"
error_text NoMedia = codes "noMedia"
error_text NoIssue = codes "noIssue"
error_text Unsettled = codes "unsettled"
