-- Which record of the journal a refusal names.
use Rattle.std.specs.Prelude.{◌≡◌, List, Some, ⊤}
use Rattle.xfs_journal.specs.Journal.{last_mark}
use Rattle.xfs_journal.specs.declared.record.Rec.{Rec}
use Rattle.xfs_guard.specs.declared.deny.Deny.{Deny}
use Rattle.xfs_guard.specs.declared.deny.Deny.TheVariants.{NoNonce, WrongNonce, Unbound, OtherBound}
use Rattle.xfs_guard.specs.Refusals.{bound_number}

-- NoNonce, WrongNonce and Unbound name the last mark, OtherBound the Bind of the bound token, and no other refusal names a record
abbrev pub NamesRecord : List Rec → Deny → Type 0
NamesRecord records (NoNonce since) = since ≡ last_mark records
NamesRecord records (WrongNonce since) = since ≡ last_mark records
NamesRecord records (Unbound since) = since ≡ last_mark records
NamesRecord records (OtherBound since) = bound_number records ≡ Some since
NamesRecord records _ = ⊤
