-- What a page shows of a disk's bytes, and what reading leaves as it was.
use Rattle.std.specs.Prelude.{◌≡◌, ◌⊎◌, ◌≢◌, ℕ, ◌+◌, ◌≤◌, ◌<◌, List, [], ◌∷◌, ◌++◌, length, take, drop, slice_index}
use Rattle.std.specs.Int.{from_be_bytes, w16}
use Rattle.std.specs.declared.option.Option.{Option}
use Rattle.std.specs.List.{AllByRecursion}
use Rattle.xfs_base.specs.Causes.{IfTold, Rose}
use Rattle.xfs_disk.specs.Disk.{AddsNone}
use Rattle.xfs_disk.specs.Moments.{EachMoment, LeavesOnly}
use Rattle.xfs_disk.specs.declared.disk.Disk.{Ghosts}
use Rattle.xfs_journal.specs.Image.{IsRecord, body, framed, contents, end_of, magic}
use Rattle.xfs_journal.specs.declared.faults.MountFault.{MountFault}
use Rattle.xfs_journal.specs.declared.faults.MountFault.TheVariants.{NotJournal}
use Rattle.xfs_journal.specs.declared.record.Rec.{Rec}

-- the next bytes from a place on, and the length of the whole
pub record PageView : Type 0 where
  pub window : List ℕ
  pub at : ℕ
  pub len : ℕ

-- the page shows these bytes
pub record Shows (all : List ℕ) (p : PageView) : Type 0 where
  pub window_is : drop p.at all ≡ p.window ++ drop (p.at + length p.window) all
  pub len_is : length all ≡ p.len
  pub within : p.at ≤ length all

-- the next k bytes were put behind those that had been read
pub record Took (all : Option (List ℕ)) (old new : PageView) (before now : List ℕ) (k : ℕ) : Type 0 where
  pub at_is : new.at ≡ old.at + k
  pub len_is : new.len ≡ old.len
  pub count : length now ≡ length before + k
  pub bytes : IfTold all (λ b. (now ≡ before ++ take k (drop old.at b)) × Shows b new)

-- what was read is what stands from a place on, as far as the page has come
pub record Since (all : Option (List ℕ)) (p : PageView) (from : ℕ) (read : List ℕ) : Type 0 where
  pub at_is : p.at ≡ from + length read
  pub bytes : IfTold all (λ b. (read ≡ take (length read) (drop from b)) × Shows b p)

-- a disk was read and synced, but not written
pub record IsQuiet {D : Type 0} (g : Ghosts D) (old new : D) : Type 0 where
  pub same : g.held new ≡ g.held old
  pub adds_none : AddsNone (g.images old) (g.images new)
  pub moments : LeavesOnly g old new (g.images old)
  pub later : g.faults old ≤ g.faults new

-- a disk was read and synced, but not written, and its count of faults rose where that failed
pub record OnlyReads {D : Type 0} (g : Ghosts D) (old new : D) (Fails : Type 0) : Type 0 where
  pub quiet : IsQuiet g old new
  pub cause : Fails → Rose (g.faults old) (g.faults new)

-- the length that a block behind a gate byte tells
abbrev pub size_in : List ℕ → ℕ
size_in block = from_be_bytes w16 (slice_index block 1 ∷ slice_index block 2 ∷ [])

-- the two bytes of the length behind a gate byte are below 256
abbrev pub AreSizeBytes : List ℕ → Type 0
AreSizeBytes block = (slice_index block 1 < 256) × (slice_index block 2 < 256)

-- no record has these bytes as its body
abbrev pub IsNoBody : List ℕ → Type 0
IsNoBody bytes = (r : Rec) → IsRecord r → body r ≢ bytes

-- a gate byte that isn't open, and anything
abbrev pub IsShut : List ℕ → Type 0
IsShut bytes = (gate : ℕ) × (rest : List ℕ) × (gate ≢ 1) × (bytes ≡ gate ∷ rest)

-- no byte, or an open gate byte with no whole record of the format behind it
abbrev pub IsBroken : List ℕ → Type 0
IsBroken bytes = (bytes ≡ []) ⊎ ((rest : List ℕ) × (bytes ≡ 1 ∷ rest) × ((r : Rec) → IsRecord r → (more : List ℕ) → rest ≢ framed r ++ more))

-- a refusal as no journal names this place, from which the disk has something broken
abbrev pub BreaksAt : Option (List ℕ) → ℕ → MountFault → Type 0
BreaksAt held gate fault = (at : ℕ) → fault ≡ NotJournal at → (at ≡ gate) × IfTold held (λ all. IsBroken (drop gate all))

-- a refusal as no journal names this place, from which the disk has fewer bytes than so many
abbrev pub EndsAt : Option (List ℕ) → ℕ → ℕ → MountFault → Type 0
EndsAt held gate count fault = (at : ℕ) → fault ≡ NotJournal at → (at ≡ gate) × IfTold held (λ all. length (drop gate all) < count)

-- the page passed an open gate byte and this record
abbrev pub Passes : Option (List ℕ) → PageView → PageView → Rec → Type 0
Passes held old new r = IfTold held (λ all. (drop old.at all ≡ (1 ∷ framed r) ++ drop new.at all) × Shows all new)

-- the first seven bytes are others than the magic, or there is no eighth
abbrev pub IsUnbegun : List ℕ → Type 0
IsUnbegun bytes = (take 7 bytes ≢ magic) ⊎ (length bytes < 8)

-- The place from which bytes are no journal: 0 where they don't begin as one, else that behind the last whole record, where no closed gate byte stands.
abbrev pub CeasesAt : List ℕ → ℕ → Type 0
CeasesAt bytes at = (IsUnbegun bytes × (at ≡ 0))
    ⊎ ((version : ℕ) × (records : List Rec) × (rest : List ℕ) × AllByRecursion IsRecord records × (bytes ≡ contents version records ++ rest) × IsBroken rest × (at ≡ end_of records))

-- some bytes cease to be a journal there
abbrev pub MayCease : ℕ → Type 0
MayCease at = (bytes : List ℕ) × CeasesAt bytes at

-- one of the images before, or at most 9 bytes where the file had no more
abbrev pub IsOldOrShort : (List ℕ → Type 0) → List ℕ → List ℕ → Type 0
IsOldOrShort images all c = images c ⊎ ((length all ≤ 9) × (length c ≤ 9))

-- at any moment a crash leaves an image of before, or at most 9 bytes where a disk that told had no more
abbrev pub LeavesOldOrShort : {D : Type 0} → Ghosts D → D → D → Type 0
LeavesOldOrShort g old new = EachMoment g old new (IsOldOrShort (g.images old))

-- a disk that tells has more than 9 bytes, and they cease to be a journal there
abbrev pub CeasesLongAt : Option (List ℕ) → ℕ → Type 0
CeasesLongAt held at = IfTold held (λ all. (9 < length all) × CeasesAt all at)
