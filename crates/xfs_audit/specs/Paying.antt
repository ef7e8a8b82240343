-- Whether what was put out is paid for, as far as motions and records were read.
use Rattle.std.specs.Prelude.{◌≡◌, ℕ, ◌<◌, ◌∷◌, ◌++◌, Bool, List, [], IfSome, Some, None, slice_get, slice_index, ⊤}
use Rattle.std.specs.declared.option.Option.{Option}
use Rattle.xfs_base.specs.declared.counts.Counts.{Counts}
use Rattle.xfs_base.specs.declared.counts.Kind.TheVariants.{Present}
use Rattle.xfs_base.specs.declared.money.NoteKind.{NoteKind}
use Rattle.xfs_mech.specs.declared.motion.Motion.{Motion}
use Rattle.xfs_mech.specs.declared.motion.Motion.TheVariants.{Moved}
use Rattle.xfs_journal.specs.declared.record.Rec.{Rec}
use Rattle.xfs_journal.specs.declared.record.Rec.TheVariants.{Order}
use Rattle.xfs_journal.specs.Journal.{record_at}
use Rattle.xfs_guard.specs.Within.{shown, Within}
use Rattle.xfs_guard.specs.Agrees.{IsAsked}
use Rattle.xfs_audit.specs.Reading.{IsRead}
use Rattle.xfs_audit.specs.Claims.{HasClaim, IsUnder, Spends}
use Rattle.xfs_audit.specs.declared.claim.Claim.{Claim}
use Rattle.xfs_audit.specs.declared.payer.Payer.{Payer}

-- the record of this number is an order to present these notes
abbrev pub IsPresentOrder : List Rec → ℕ → Counts → Type 0
IsPresentOrder records number counts = record_at records number ≡ Some (Order Present counts)

-- an entry put these notes out, on the order with this number; or it put none out
pub record PutsOut (entry : Motion) (number : ℕ) (moved : Counts) : Type 0 where
  pub diverted : Counts
  pub is : entry ≡ Moved number Present moved diverted

abbrev pub IsQuiet : Motion → Type 0
IsQuiet (Moved number Present moved diverted) = ⊥
IsQuiet m = ⊤

abbrev pub IsPutOut : Motion → Option (ℕ × Counts) → Type 0
IsPutOut entry (Some notes) = PutsOut entry notes.0 notes.1
IsPutOut entry None = IsQuiet entry

-- the claim is that of the live issue, and its sums are what was put out since that
pub record IsCharged (key : List ℕ) (units : List NoteKind) (records : List Rec) (motions : List Motion) (live : Option ℕ) (claim : Claim) : Type 0 where
  pub issue : ℕ
  pub lives : live ≡ Some issue
  pub token : HasClaim key records issue claim.amounts
  pub sums : (i : ℕ) (kind : NoteKind) → slice_get units i ≡ Some kind → slice_index claim.shown i ≡ shown units records motions issue kind.currency

-- where there is no claim, nothing was put out since the live issue
abbrev pub IsClaimed : List ℕ → List NoteKind → List Rec → List Motion → Option ℕ → Option Claim → Type 0
IsClaimed key units records motions live (Some claim) = IsCharged key units records motions live claim
IsClaimed key units records motions live None = (p : ℕ) (currency : List ℕ) → live ≡ Some p → shown units records motions p currency ≡ 0

-- a payer has read some of these records, and the notes that it counts fit 64 bits
pub record IsPayerOf (records : List Rec) (payer : Payer) : Type 0 where
  pub read : IsRead records payer.read
  pub small : IfSome payer.claim IsUnder

-- these motions are paid for; the records behind the ones that were read issued nothing on which notes were put out
pub record IsPaying (key : List ℕ) (units : List NoteKind) (records : List Rec) (motions : List Motion) (payer : Payer) : Type 0 where
  pub within : Within key units records motions
  pub read : IsRead records payer.read
  pub quiet : (p : ℕ) (currency : List ℕ) → payer.read.count < p → shown units records motions p currency ≡ 0
  pub claimed : IsClaimed key units records motions payer.read.live payer.claim

-- notes are put out on the claim that is there
abbrev pub SpendsThere : List NoteKind → Counts → Option Claim → Option Claim → Bool → Type 0
SpendsThere units moved (Some old) (Some new) paid = Spends units moved old new paid
SpendsThere units moved old new paid = ⊥

-- notes that were put out on an order are paid for, whatever was read before
abbrev pub Pays : List ℕ → List NoteKind → List Rec → ℕ → Counts → Payer → Payer → Type 0
Pays key units records number moved old new = (done : List Motion) (counts diverted : Counts) → IsPaying key units records done old
    → IsPresentOrder records number counts → IsPaying key units records (done ++ Moved number Present moved diverted ∷ []) new

-- no list with these notes is within its tokens, whatever stands behind them
abbrev pub IsUnpaid : List ℕ → List NoteKind → List Rec → ℕ → Counts → Payer → Type 0
IsUnpaid key units records number moved old = (done rest : List Motion) (diverted : Counts) → IsPaying key units records done old
    → ¬ (Within key units records (done ++ Moved number Present moved diverted ∷ rest))

-- what was paid for stays so
abbrev pub StaysPaid : List Rec → Payer → Payer → Type 0
StaysPaid records old new = (k : List ℕ) (units : List NoteKind) (done : List Motion) → IsPaying k units records done old → IsPaying k units records done new

-- what was paid for under this key stays so
abbrev pub KeepsUnder : List ℕ → List Rec → Payer → Payer → Type 0
KeepsUnder key records old new = (units : List NoteKind) (done : List Motion) → IsPaying key units records done old → IsPaying key units records done new

-- one more entry is paid for
abbrev pub Reads : List ℕ → List NoteKind → List Rec → Motion → Payer → Payer → Type 0
Reads key units records entry old new = (done : List Motion) → IsAsked records entry → IsPaying key units records done old → IsPaying key units records (done ++ entry ∷ []) new

-- no list with this entry is within its tokens
abbrev pub Breaks : List ℕ → List NoteKind → List Rec → Motion → Payer → Type 0
Breaks key units records entry old = (done rest : List Motion) → IsPaying key units records done old → ¬ (Within key units records (done ++ entry ∷ rest))
