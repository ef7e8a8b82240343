-- The record that a body holds, if it is a body: what stands at each place of it.
use Rattle.std.specs.Prelude.{ℕ, zero, suc, ◌==◌, nat_le, Bool, false, ◌&&◌, if◌then◌else◌, List, [], ◌∷◌, drop}
use Rattle.std.specs.Int.{from_be_bytes, w32, w64}
use Rattle.xfs_base.specs.declared.counts.Counts.{Counts}
use Rattle.xfs_base.specs.declared.counts.Kind.{Kind}
use Rattle.xfs_base.specs.declared.counts.Kind.TheVariants.{Stack, Present, Reject, Retract}
use Rattle.xfs_base.specs.declared.counts.Places.{Places}
use Rattle.xfs_journal.specs.declared.record.Rec.{Rec}
use Rattle.xfs_journal.specs.declared.record.Rec.TheVariants.{Issue, Clear, Expire, Boot, Start, Bind, Order, Done, Load}

-- this many numbers of 4 bytes
abbrev pub numbers : ℕ → List ℕ → List ℕ
numbers zero bs = []
numbers (suc n) bs = from_be_bytes w32 bs ∷ numbers n (drop 4 bs)

abbrev pub counts_in : List ℕ → Counts
counts_in bs = record { 0 = numbers 8 bs }

abbrev pub kind_in : ℕ → Kind
kind_in b = if b == 1 then Stack else (if b == 2 then Present else (if b == 3 then Reject else Retract))

abbrev pub places_in : List ℕ → Places
places_in bs = record {
  units = counts_in bs;
  transport = counts_in (drop 32 bs);
  outlet = counts_in (drop 64 bs);
  taken = counts_in (drop 96 bs);
  retracted = counts_in (drop 128 bs);
  rejected = counts_in (drop 160 bs);
}

abbrev pub first_byte : List ℕ → ℕ
first_byte [] = 0
first_byte (b ∷ bs) = b

abbrev pub record_in : ℕ → List ℕ → Rec
record_in letter bs =
    if letter == 0x49 then Issue (from_be_bytes w64 bs) (from_be_bytes w64 (drop 8 bs))
    else (if letter == 0x43 then Clear
    else (if letter == 0x45 then Expire
    else (if letter == 0x42 then Boot (places_in bs)
    else (if letter == 0x4B then Start (from_be_bytes w64 bs) (places_in (drop 8 bs))
    else (if letter == 0x54 then Bind bs
    else (if letter == 0x4F then Order (kind_in (first_byte bs)) (counts_in (drop 1 bs))
    else (if letter == 0x44 then Done (counts_in bs) (counts_in (drop 32 bs))
    else Load (first_byte bs) (from_be_bytes w32 (drop 1 bs)))))))))

abbrev pub record_of : List ℕ → Rec
record_of [] = Clear
record_of (letter ∷ bs) = record_in letter bs

-- how many bytes stand behind a body's letter
abbrev pub has_size : ℕ → ℕ → Bool
has_size letter n =
    if letter == 0x49 then n == 16
    else (if letter == 0x43 then n == 0
    else (if letter == 0x45 then n == 0
    else (if letter == 0x42 then n == 192
    else (if letter == 0x4B then n == 200
    else (if letter == 0x54 then nat_le 1 n && nat_le n 1024
    else (if letter == 0x4F then n == 33
    else (if letter == 0x44 then n == 64
    else (if letter == 0x4C then n == 5 else false))))))))
