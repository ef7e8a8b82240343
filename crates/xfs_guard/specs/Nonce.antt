-- The nonce of the live Issue.
use Rattle.std.specs.Prelude.{◌≡◌, ◌⊎◌, Bool, List, Some, None, if◌then◌else◌}
use Rattle.std.specs.Option.{option_and_then}
use Rattle.std.specs.declared.option.Option.{Option}
use Rattle.xfs_journal.specs.declared.record.Rec.{Rec}
use Rattle.xfs_journal.specs.declared.record.Rec.TheVariants.{Issue, Clear, Expire}
use Rattle.xfs_journal.specs.Journal.{record_at, live_of, nonce_text}
use Rattle.xfs_guard.specs.declared.nonce.Nonce.{Nonce}

-- the nonce of an Issue record
abbrev pub nonce_of : Option Rec → Option Nonce
nonce_of (Some (Issue number word)) = Some (record { text = nonce_text number word; number = number })
nonce_of _ = None

-- a record that ends the live nonce and is no Boot: it was cleared, or its life is over
abbrev pub EndsNonce : Rec → Type 0
EndsNonce r = (r ≡ Clear) ⊎ (r ≡ Expire)

-- the nonce of the live Issue
abbrev pub live_nonce : List Rec → Option Nonce
live_nonce records = option_and_then (λ p. nonce_of (record_at records p)) (live_of records)

-- the nonce that lives: that of the live Issue, and none where the boot record behind the records is missing
abbrev pub live_in : Bool → List Rec → Option Nonce
live_in boot_missing records = if boot_missing then None else live_nonce records
