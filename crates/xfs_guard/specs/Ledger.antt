-- What a ledger keeps beside its records.
use Rattle.std.specs.Prelude.{◌≡◌, ℕ, ◌+◌, ◌<◌, ◌≤◌, Bool, false, List, length, slice_get, slice_index, Some, None, ⊤}
use Rattle.std.specs.declared.option.Option.{Option}
use Rattle.std.specs.Option.{option_map}
use Rattle.xfs_base.specs.declared.money.NoteKind.{NoteKind}
use Rattle.xfs_journal.specs.declared.record.Rec.{Rec}
use Rattle.xfs_journal.specs.declared.record.Rec.TheVariants.{Bind}
use Rattle.xfs_journal.specs.Journal.{record_at, live_of, binding_of, last_mark, next_issue}
use Rattle.xfs_guard.specs.declared.bound.Live.{Live}
use Rattle.xfs_guard.specs.declared.nonce.Nonce.{Nonce}
use Rattle.xfs_guard.specs.declared.bound.Bound.{Bound}
use Rattle.xfs_guard.specs.Nonce.{nonce_of}
use Rattle.xfs_guard.specs.Presented.{presented_in}

-- the live issue that is kept is that of the records
abbrev pub IsLive : List Rec → Option Live → Type 0
IsLive records None = live_of records ≡ None
IsLive records (Some live) = (live_of records ≡ Some live.number) × (nonce_of (record_at records live.number) ≡ Some live.nonce)

-- for each of these amounts the sum presented in its currency
abbrev pub AreSumsPresented : List NoteKind → List Rec → List (List ℕ × ℕ) → List ℕ → Type 0
AreSumsPresented units records amounts presented = (i : ℕ) (a : List ℕ × ℕ) → slice_get amounts i ≡ Some a → slice_index presented i ≡ presented_in units records a.0

-- the bind of the issue at p is that of the records
pub record IsBind (units : List NoteKind) (records : List Rec) (p : ℕ) (b : Bound) : Type 0 where
  pub token : List ℕ
  pub found : binding_of records p ≡ Some (record { number = b.number; token = token })
  pub written : record_at records b.number ≡ Some (Bind token)
  pub sums : AreSumsPresented units records b.amounts b.presented

-- the bind that is kept is that of the live issue
abbrev pub IsBound : List NoteKind → List Rec → Option Live → Option Bound → Type 0
IsBound units records None None = ⊤
IsBound units records None (Some b) = ⊥
IsBound units records (Some live) None = binding_of records live.number ≡ None
IsBound units records (Some live) (Some b) = IsBind units records live.number b

abbrev pub amounts_kept : Option Bound → Option (List (List ℕ × ℕ))
amounts_kept bound = option_map (λ (b : Bound). b.amounts) bound

-- memory has the record of the bind
abbrev pub IsBehind : ℕ → Option Bound → Type 0
IsBehind base None = ⊤
IsBehind base (Some b) = base < b.number

-- what is kept beside the records is what is read of them
pub record IsReadFrom (records : List Rec) (base : ℕ) (units : List NoteKind) (issues mark : ℕ) (live : Option Live) (bound : Option Bound) : Type 0 where
  pub issued : issues + 1 ≡ next_issue records
  pub few : issues < length records
  pub within : base ≤ length records
  pub marked : mark ≡ last_mark records
  pub lives : IsLive records live
  pub binds : IsBound units records live bound
  pub behind : IsBehind base bound

-- where the record in doubt is an issue, its nonce is kept
abbrev pub IsDoubted : Option Rec → Option Nonce → Type 0
IsDoubted in_doubt doubted = (n : Nonce) → nonce_of in_doubt ≡ Some n → doubted ≡ Some n

-- what is kept beside the records is what is read of them while the journal is open and has its boot record, and the live issue also while it is shut
pub record KeepsLedger (records : List Rec) (base : ℕ) (in_doubt : Option Rec) (shut boot_missing : Bool) (units : List NoteKind) (issues mark : ℕ) (live : Option Live) (bound : Option Bound) (doubted : Option Nonce) : Type 0 where
  pub read : shut ≡ false → boot_missing ≡ false → IsReadFrom records base units issues mark live bound
  pub lives : boot_missing ≡ false → IsLive records live
  pub doubts : IsDoubted in_doubt doubted
