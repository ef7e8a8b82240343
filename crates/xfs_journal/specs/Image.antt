-- The journal's bytes: a magic, a version, the records one after another, a closing gate byte, and whatever follows it. Numbers are big-endian.
use Rattle.std.specs.Prelude.{◌≡◌, ◌≢◌, ◌⊎◌, ℕ, ◌+◌, ◌<◌, ◌≤◌, ◌^◌, List, [], ◌∷◌, ◌++◌, length, All, ⊤}
use Rattle.std.specs.List.{flat_map, AllByRecursion}
use Rattle.std.specs.Int.{to_be_bytes, w16, w32, w64}
use Rattle.xfs_base.specs.declared.counts.Counts.{Counts}
use Rattle.xfs_base.specs.declared.counts.Kind.{Kind}
use Rattle.xfs_base.specs.declared.counts.Kind.TheVariants.{Stack, Present, Reject, Retract}
use Rattle.xfs_base.specs.declared.counts.Places.{Places}
use Rattle.xfs_journal.specs.declared.record.Rec.{Rec}
use Rattle.xfs_journal.specs.declared.record.Rec.TheVariants.{Issue, Clear, Expire, Boot, Start, Bind, Order, Done, Load}

-- eight counts of 4 bytes
abbrev pub counts_bytes : Counts → List ℕ
counts_bytes counts = flat_map (to_be_bytes w32) counts.0

abbrev pub places_bytes : Places → List ℕ
places_bytes p = counts_bytes p.units ++ counts_bytes p.transport ++ counts_bytes p.outlet ++ counts_bytes p.taken ++ counts_bytes p.retracted ++ counts_bytes p.rejected

abbrev pub kind_byte : Kind → ℕ
kind_byte Stack = 1
kind_byte Present = 2
kind_byte Reject = 3
kind_byte Retract = 4

-- a record's body: a capital letter, and its fields in the order of the record
abbrev pub body : Rec → List ℕ
body (Issue number word) = 0x49 ∷ to_be_bytes w64 number ++ to_be_bytes w64 word
body Clear = 0x43 ∷ []
body Expire = 0x45 ∷ []
body (Boot places) = 0x42 ∷ places_bytes places
body (Start issues places) = 0x4B ∷ to_be_bytes w64 issues ++ places_bytes places
body (Bind token) = 0x54 ∷ token
body (Order kind counts) = 0x4F ∷ kind_byte kind ∷ counts_bytes counts
body (Done moved diverted) = 0x44 ∷ counts_bytes moved ++ counts_bytes diverted
body (Load unit count) = 0x4C ∷ unit ∷ to_be_bytes w32 count

abbrev pub AreCounts : Counts → Type 0
AreCounts counts = (length counts.0 ≡ 8) × All (λ n. n < 2 ^ 32) counts.0

abbrev pub ArePlaces : Places → Type 0
ArePlaces p = AreCounts p.units × AreCounts p.transport × AreCounts p.outlet × AreCounts p.taken × AreCounts p.retracted × AreCounts p.rejected

-- a record of the format: its numbers have their bytes, a token has 1 to 1,024, and a Load's unit is from 1 to 8
abbrev pub IsRecord : Rec → Type 0
IsRecord (Issue number word) = (number < 2 ^ 64) × (word < 2 ^ 64)
IsRecord Clear = ⊤
IsRecord Expire = ⊤
IsRecord (Boot p) = ArePlaces p
IsRecord (Start issues p) = (issues < 2 ^ 64) × ArePlaces p
IsRecord (Bind token) = (1 ≤ length token) × (length token ≤ 1024)
IsRecord (Order kind counts) = AreCounts counts
IsRecord (Done moved diverted) = AreCounts moved × AreCounts diverted
IsRecord (Load unit count) = (1 ≤ unit) × (unit ≤ 8) × (count < 2 ^ 32)

-- the condition of an append: the unit of a Load is one of the eight
abbrev pub HasUnit : Rec → Type 0
HasUnit (Load unit count) = (1 ≤ unit) × (unit ≤ 8)
HasUnit r = ⊤

-- the body's length as 2 bytes, and the body
abbrev pub framed : Rec → List ℕ
framed r = to_be_bytes w16 (length (body r)) ++ body r

-- each record behind an open gate byte
abbrev pub blocks : List Rec → List ℕ
blocks [] = []
blocks (r ∷ rs) = 1 ∷ framed r ++ blocks rs

-- XFSJRNL
abbrev pub magic : List ℕ
magic = 0x58 ∷ 0x46 ∷ 0x53 ∷ 0x4A ∷ 0x52 ∷ 0x4E ∷ 0x4C ∷ []

-- the magic, the version and the records
abbrev pub contents : ℕ → List Rec → List ℕ
contents version records = magic ++ version ∷ blocks records

-- the place of the closing gate byte
abbrev pub end_of : List Rec → ℕ
end_of records = 8 + length (blocks records)

-- the bytes up to and with the closing gate byte
abbrev pub size : List Rec → ℕ
size records = end_of records + 1

-- the bytes are those of the list: any version, its records, a closed gate byte, and whatever follows
pub record IsImage (bytes : List ℕ) (records : List Rec) : Type 0 where
  pub of_table : AllByRecursion IsRecord records
  pub version : ℕ
  pub gate : ℕ
  pub rest : List ℕ
  pub closed : gate ≢ 1
  pub bytes_are : bytes ≡ contents version records ++ gate ∷ rest

-- the bytes stand for the list: they are its image, or they are at most 9, no list has them as its image, and the list is empty
abbrev pub StandsFor : List ℕ → List Rec → Type 0
StandsFor bytes records = IsImage bytes records ⊎ ((records ≡ []) × (length bytes ≤ 9) × ((other : List Rec) → ¬ IsImage bytes other))
