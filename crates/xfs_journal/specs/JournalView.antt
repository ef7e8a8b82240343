-- What a journal is to its callers, and what every call keeps.
use Rattle.std.specs.Prelude.{◌≡◌, ◌≢◌, ◌⊎◌, ℕ, ◌+◌, ◌-◌, ◌^◌, ◌<◌, ◌≤◌, nat_lt, Bool, false, ◌||◌, if◌then◌else◌, List, [], ◌∷◌, ◌++◌, length, take, drop, slice_get, Some, None, IfSome}
use Rattle.std.specs.declared.option.Option.{Option}
use Rattle.std.specs.List.{AllByRecursion}
use Rattle.xfs_base.specs.Causes.{IfTold}
use Rattle.xfs_disk.specs.Disk.{overlaid, Only}
use Rattle.xfs_journal.specs.Held.{StandsForNone}
use Rattle.xfs_journal.specs.Image.{IsImage, IsRecord, StandsFor, end_of, magic, size}
use Rattle.xfs_disk.specs.declared.disk.Disk.{Ghosts}
use Rattle.xfs_journal.specs.Journal.{base_of}
use Rattle.xfs_journal.specs.Paging.{CeasesAt, MayCease}
use Rattle.xfs_journal.specs.declared.faults.AppendFault.{AppendFault}
use Rattle.xfs_journal.specs.declared.faults.AppendFault.TheVariants.{Shut, Full}
use Rattle.xfs_journal.specs.declared.limits.Limits.{Limits}
use Rattle.xfs_journal.specs.declared.record.Rec.{Rec}

pub record JournalView (D : Type 0) : Type 0 where
  pub disk : D
  pub records : List Rec
  -- how many of them, from the first on, memory doesn't have
  pub base : ℕ
  pub limits : Limits
  pub shut : Bool
  -- how many appends there is room for
  pub room : ℕ
  -- the record whose append last answered that the disk failed, until the disk is read again
  pub in_doubt : Option Rec

-- the bytes but for the eighth: the magic, any version, and the same behind them
abbrev pub IsButForEighth : List ℕ → List ℕ → Type 0
IsButForEighth bytes c = (version : ℕ) × (c ≡ magic ++ version ∷ drop 8 bytes)

-- the eighth byte is this one, where it is known
abbrev pub HasVersion : Option (List ℕ) → Option ℕ → Type 0
HasVersion held version = IfTold held (λ all. IfSome version (λ v. slice_get all 7 ≡ Some v))

-- the version is another than 1, where the bytes are told
abbrev pub IsCarriedOver : Option (List ℕ) → Type 0
IsCarriedOver held = (version : ℕ) × (version ≢ 0x31) × HasVersion held (Some version)

-- the disk has an image of the list, and nothing else than that with any eighth byte
pub record IsAtRest (images : List ℕ → Type 0) (records : List Rec) (bytes : List ℕ) : Type 0 where
  pub image : IsImage bytes records
  pub durable : (c : List ℕ) → images c → IsButForEighth bytes c

-- the records are of the table, and while the journal isn't shut the disk has them at rest; a disk that tells has the closing gate byte behind them
pub record IsKept (held : Option (List ℕ)) (images : List ℕ → Type 0) (records : List Rec) (shut : Bool) (gate : ℕ) : Type 0 where
  pub place : IfTold held (λ _. gate ≡ end_of records)
  pub small : gate + 1 < 2 ^ 64
  pub of_table : AllByRecursion IsRecord records
  pub at_rest : shut ≡ false → IfTold held (IsAtRest images records)

-- the records behind the base, or the bytes of the whole list, exceed a limit
abbrev pub exceeds : Limits → ℕ → List Rec → Bool
exceeds limits base records = nat_lt limits.records (length records - base) || nat_lt limits.bytes (size records)

-- the first refusal that applies, in the order in which they are looked at: of a journal that is shut or not, by its limits, its base and its list
abbrev pub stops : Bool → Limits → ℕ → List Rec → Rec → Option AppendFault
stops shut limits base records r = if shut then Some Shut else (if exceeds limits base (records ++ r ∷ []) then Some Full else None)

abbrev pub refusal : {D : Type 0} → JournalView D → Rec → Option AppendFault
refusal j r = stops j.shut j.limits j.base j.records r

-- the bytes stand for the list, or for the list with the record
abbrev pub StandsForEither : List Rec → Rec → List ℕ → Type 0
StandsForEither records r bytes = StandsFor bytes records ⊎ StandsFor bytes (records ++ r ∷ [])

-- one of the lists that the disk may have: the kept one, or that one with the record in doubt
abbrev pub IsPossible : List Rec → Option Rec → List Rec → Type 0
IsPossible kept in_doubt records = (records ≡ kept) ⊎ ((r : Rec) × (in_doubt ≡ Some r) × (records ≡ kept ++ r ∷ []))

-- behind the base, a list is one that the disk may have
abbrev pub IsPossibleBehind : ℕ → List Rec → Option Rec → List Rec → Type 0
IsPossibleBehind base kept in_doubt found = IsPossible (drop base kept) in_doubt (drop base found)

-- the bytes are the image of a possible list
abbrev pub HasPossible : List Rec → Option Rec → List ℕ → Type 0
HasPossible kept in_doubt bytes = (records : List Rec) × IsPossible kept in_doubt records × IsImage bytes records

-- a disk that tells, and whose eighth byte was a 1: it has a 2 there and the rest as it was, and a crash leaves that
abbrev pub IsRenewed : {D : Type 0} → Ghosts D → D → D → Type 0
IsRenewed g old new = IfTold (g.held old) (λ all. slice_get all 7 ≡ Some 0x31 →
    (g.held new ≡ Some (overlaid all 7 (0x32 ∷ []))) × Only (overlaid all 7 (0x32 ∷ [])) (g.images new))

-- a disk that tells ceases to be a journal there, and stands for no list
abbrev pub IsNoJournal : Option (List ℕ) → ℕ → Type 0
IsNoJournal held at = IfTold held (λ all. CeasesAt all at × StandsForNone all)

-- A crash leaves one of the possible lists. While the journal isn't shut, no record is in doubt.
pub record IsInDoubt (held : Option (List ℕ)) (images : List ℕ → Type 0) (records : List Rec) (shut : Bool) (in_doubt : Option Rec) : Type 0 where
  pub none : shut ≡ false → in_doubt ≡ None
  pub of_table : IfSome in_doubt IsRecord
  pub possible : IfTold held (λ _. (c : List ℕ) → images c → HasPossible records in_doubt c)

-- the longest of the possible lists
abbrev pub longest : List Rec → Option Rec → List Rec
longest kept None = kept
longest kept (Some r) = kept ++ r ∷ []

-- the first place, from 0, at which a list parts from the longest possible one: it has another record there, or one of them has none
abbrev pub PartsAt : List Rec → Option Rec → List Rec → ℕ → Type 0
PartsAt kept in_doubt records n = (take n records ≡ take n (longest kept in_doubt)) × (slice_get records n ≢ slice_get (longest kept in_doubt) n)

-- the place of the gate byte of the first record behind the base that differs from the longest possible list, is missing from it or is too many
abbrev pub DiffersAt : ℕ → List Rec → Option Rec → List Rec → ℕ → Type 0
DiffersAt base kept in_doubt records at = (n : ℕ) × PartsAt (drop base kept) in_doubt (drop base records) n × (at ≡ end_of (take (base + n) records))

-- behind the base some list that was found is none of the possible ones and parts from them there, or some bytes cease to be a journal there
abbrev pub MayPartAt : ℕ → List Rec → Option Rec → ℕ → Type 0
MayPartAt base kept in_doubt at =
    ((found : List Rec) × ¬ IsPossibleBehind base kept in_doubt found × DiffersAt base kept in_doubt found at) ⊎ MayCease at

-- Where the list ends, and where it would end with the record in doubt; its base is at most where its last boot record stands.
pub record IsMeasured (records : List Rec) (base : ℕ) (in_doubt : Option Rec) (end far : ℕ) : Type 0 where
  pub end_is : end ≡ end_of records
  pub far_is : IfSome in_doubt (λ r. far ≡ end_of (records ++ r ∷ []))
  pub led : base ≤ base_of records
