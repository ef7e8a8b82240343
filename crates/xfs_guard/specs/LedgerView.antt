-- What is seen of a ledger.
use Rattle.std.specs.Prelude.{◌≡◌, ◌⊎◌, ℕ, Bool, true, false, List, [], ◌∷◌, ◌++◌, if◌then◌else◌, unwrap_or, Some, None, Ok, Err}
use Rattle.std.specs.declared.option.Option.{Option}
use Rattle.std.specs.declared.result.Result.{Result}
use Rattle.xfs_base.specs.declared.counts.Counts.{Counts}
use Rattle.xfs_base.specs.declared.counts.Places.{Places}
use Rattle.xfs_base.specs.declared.money.NoteKind.{NoteKind}
use Rattle.xfs_token.specs.Amounts.{has_currency}
use Rattle.xfs_journal.specs.JournalView.{exceeds}
use Rattle.xfs_journal.specs.declared.limits.Limits.{Limits}
use Rattle.xfs_journal.specs.declared.record.Rec.{Rec}
use Rattle.xfs_guard.specs.declared.deny.Deny.{Deny}
use Rattle.xfs_guard.specs.declared.deny.Deny.TheVariants.{Shut, Full, Disk, Memory}
use Rattle.xfs_guard.specs.Presented.{presented_in}

-- a ledger: its journal with the disk, and what of the records is kept beside them
pub record LedgerView (D : Type 0) : Type 0 where
  pub records : List Rec
  -- how many of them, from the first on, memory doesn't have
  pub base : ℕ
  pub units : List NoteKind
  -- the amounts of the token that is bound to the live nonce
  pub bound : Option (List (List ℕ × ℕ))
  -- the places of the last boot record that was appended, and the notes that were loaded since
  pub booted : Places
  pub loaded : Counts
  -- how many appends there is room for
  pub room : ℕ
  pub limits : Limits
  pub shut : Bool
  -- a restore found no room for its boot record, and none was appended since
  pub boot_missing : Bool
  -- the record whose append last answered that the disk failed
  pub in_doubt : Option Rec
  pub disk : D

-- the journal is open, and its boot record isn't missing
abbrev pub IsOpenLedger : {D : Type 0} → LedgerView D → Type 0
IsOpenLedger l = (l.shut ≡ false) × (l.boot_missing ≡ false)

-- the list has this record more, and these amounts are bound then
pub record HasOneMore {D : Type 0} (old new : LedgerView D) (r : Rec) (bound : Option (List (List ℕ × ℕ))) : Type 0 where
  pub records : new.records ≡ old.records ++ r ∷ []
  pub base : new.base ≡ old.base
  pub units : new.units ≡ old.units
  pub bound_is : new.bound ≡ bound
  pub booted : new.booted ≡ old.booted
  pub loaded : new.loaded ≡ old.loaded
  pub limits : new.limits ≡ old.limits
  pub open_still : new.shut ≡ false
  pub boot_missing : new.boot_missing ≡ old.boot_missing
  pub in_doubt : new.in_doubt ≡ None

-- all is as before, the room aside
pub record IsSame {D : Type 0} (old new : LedgerView D) : Type 0 where
  pub records : new.records ≡ old.records
  pub base : new.base ≡ old.base
  pub units : new.units ≡ old.units
  pub bound : new.bound ≡ old.bound
  pub booted : new.booted ≡ old.booted
  pub loaded : new.loaded ≡ old.loaded
  pub limits : new.limits ≡ old.limits
  pub shut : new.shut ≡ old.shut
  pub boot_missing : new.boot_missing ≡ old.boot_missing
  pub in_doubt : new.in_doubt ≡ old.in_doubt
  pub disk : new.disk ≡ old.disk

-- the disk failed: the journal is shut, the record is in doubt, and the list is the old one
pub record Doubts {D : Type 0} (old new : LedgerView D) (r : Rec) : Type 0 where
  pub records : new.records ≡ old.records
  pub base : new.base ≡ old.base
  pub units : new.units ≡ old.units
  pub bound : new.bound ≡ old.bound
  pub booted : new.booted ≡ old.booted
  pub loaded : new.loaded ≡ old.loaded
  pub limits : new.limits ≡ old.limits
  pub shut : new.shut ≡ true
  pub boot_missing : new.boot_missing ≡ old.boot_missing
  pub in_doubt : new.in_doubt ≡ Some r

-- what a call that writes this record leaves
abbrev pub Wrote : {T D : Type 0} → Result T Deny → LedgerView D → LedgerView D → Rec → Option (List (List ℕ × ℕ)) → Type 0
Wrote (Ok x) old new r bound = HasOneMore old new r bound
Wrote (Err Disk) old new r bound = Doubts old new r
Wrote (Err e) old new r bound = IsSame old new

-- why a record isn't taken: the journal is shut, its boot record is missing, or a limit would be exceeded
abbrev pub write_refusal : {D : Type 0} → LedgerView D → Rec → Option Deny
write_refusal l r = if l.shut then Some Shut else if l.boot_missing then Some Full else (if exceeds l.limits l.base (l.records ++ r ∷ []) then Some Full else None)

-- why a record that nothing refuses isn't written
abbrev pub IsWriteFault : Deny → Type 0
IsWriteFault e = (e ≡ Memory) ⊎ (e ≡ Disk)

-- An open ledger tells what was presented by its bound amounts: of a currency of which they have nothing, nothing was.
pub record TellsPresented {D : Type 0} (l : LedgerView D) : Type 0 where
  pub open_still : IsOpenLedger l
  pub told : (c : List ℕ) → has_currency c (unwrap_or l.bound []) ≡ false → presented_in l.units l.records c ≡ 0
