-- A mix for an amount is counts of notes that lie within what is there, are of one currency, and are worth exactly the amount; it is least where no other has fewer notes.
use Rattle.std.specs.Prelude.{◌≡◌, ℕ, ⊤, Ok, Err, All, replicate, true, ◌+◌, ◌*◌, ◌≤◌, ◌<◌, List, length, sum, MatchOption, IfSome, None, Some, slice_get, slice_index, slice_index_or, slice_set, nat_le, nat_lt, if◌then◌else◌}
use Rattle.std.specs.declared.option.Option.{Option}
use Rattle.std.specs.declared.result.Result.{Result}
use Rattle.std.specs.Option.{option_map_or}
use Rattle.std.specs.Str.{bytes_eq}
use Rattle.xfs_base.specs.declared.counts.Counts.{Counts}
use Rattle.xfs_base.specs.declared.money.NoteKind.{NoteKind}
use Rattle.xfs_base.specs.Counts.{at, LiesIn}
use Rattle.xfs_base.specs.Money.{value}
use Rattle.xfs_base.specs.Values.{IsNoteValue}
use Rattle.xfs_mix.specs.declared.mix.MixFault.{MixFault}
use Rattle.xfs_mix.specs.declared.mix.MixFault.TheVariants.{Nothing, TooMany, Memory}

-- at most eight kinds of notes, each of the value of a note
pub record AreNoteKinds (kinds : List NoteKind) : Type 0 where
  pub few : length kinds ≤ 8
  pub values : All (λ k. IsNoteValue k.value) kinds

-- a place, from 0, of the kinds and of the eight limits, whose notes are of the currency
pub record IsUnitOf (currency : List ℕ) (kinds : List NoteKind) (limits : Counts) (u : ℕ) : Type 0 where
  pub unit : (u < length kinds) × (length kinds ≤ 8)
  pub eight : length limits.0 ≡ 8
  pub of : IfSome (slice_get kinds u) (λ k. (bytes_eq k.currency currency ≡ true) × IsNoteValue k.value)

-- how many notes of a unit, from 0, may be used: those that are there, where the unit is of the currency
abbrev pub usable : List NoteKind → Counts → List ℕ → ℕ → ℕ
usable units have currency u = option_map_or (λ k. if bytes_eq k.currency currency then at have u else 0) (slice_get units u) 0

-- counts for an amount in whole units of the currency
pub record IsMix (units : List NoteKind) (have : Counts) (currency : List ℕ) (amount : ℕ) (n : Counts) : Type 0 where
  pub within : (u : ℕ) → at n u ≤ usable units have currency u
  pub worth : value units n currency ≡ 1000 * amount

-- no mix for the amount has fewer notes
abbrev pub IsLeast : List NoteKind → Counts → List ℕ → ℕ → Counts → Type 0
IsLeast units have currency amount n = (m : Counts) → IsMix units have currency amount m → sum n.0 ≤ sum m.0

-- counts for an amount within limits
pub record IsWithin (units : List NoteKind) (limits : Counts) (currency : List ℕ) (amount : ℕ) (n : Counts) : Type 0 where
  pub lies : LiesIn n limits
  pub worth : value units n currency ≡ 1000 * amount

-- the least counts for an amount within limits, if there are any
abbrev pub IsBest : List NoteKind → Counts → List ℕ → ℕ → Option Counts → Type 0
IsBest units limits currency amount best =
    MatchOption best ((m : Counts) → IsWithin units limits currency amount m → ⊥)
    (λ n. (length n.0 ≡ 8) × IsWithin units limits currency amount n × ((m : Counts) → IsWithin units limits currency amount m → sum n.0 ≤ sum m.0))

-- the best for each amount below the table's length
abbrev pub IsTable : List NoteKind → Counts → List ℕ → List (Option Counts) → Type 0
IsTable units limits currency table = (a : ℕ) (d : Option Counts) → a < length table → IsBest units limits currency a (slice_index_or table a d)

-- one list of numbers is another, with k more at a place
pub record IsRaised (u k : ℕ) (old new : List ℕ) : Type 0 where
  pub here : slice_index new u ≡ slice_index old u + k
  pub others : (w : ℕ) → (w ≡ u → ⊥) → slice_index new w ≡ slice_index old w

-- counts with n more of a unit
abbrev pub with_more : Counts → ℕ → ℕ → Counts
with_more q u n = record { 0 = slice_set q.0 u (at q u + n) }

-- the better of what is there, and of another with n more of a unit
abbrev pub better_of : ℕ → ℕ → Option Counts → Option Counts → Option Counts
better_of u n o None = o
better_of u n None (Some q) = Some (with_more q u n)
better_of u n (Some b) (Some q) = if nat_le (sum b.0) (sum (with_more q u n).0) then Some b else Some (with_more q u n)

-- the unit at a place is of the currency, and n more of its notes are allowed: at most one more than all that were
pub record IsMore (ks : List NoteKind) (cur : List ℕ) (u n v : ℕ) (old new : Counts) : Type 0 where
  pub kind : NoteKind
  pub stands : slice_get ks u ≡ Some kind
  pub of : bytes_eq kind.currency cur ≡ true
  pub worth : kind.value ≡ v
  pub some : 0 < n
  pub few : n ≤ at old u + 1
  pub raised : IsRaised u n old.0 new.0

-- the table in the middle of a pass: from the place a on the new notes are counted in
pub record IsPassed (ks : List NoteKind) (cur : List ℕ) (old new : Counts) (a : ℕ) (table : List (Option Counts)) : Type 0 where
  pub done : (b : ℕ) (d : Option Counts) → a ≤ b → b < length table → IsBest ks new cur b (slice_index_or table b d)
  pub left : (b : ℕ) (d : Option Counts) → b < a → b < length table → IsBest ks old cur b (slice_index_or table b d)

-- no notes are allowed
abbrev pub none_yet : Counts
none_yet = record { 0 = replicate 8 0 }

-- the least mix for an amount, if there is one
abbrev pub IsBestMix : List NoteKind → Counts → List ℕ → ℕ → Option Counts → Type 0
IsBestMix units have currency amount best =
    MatchOption best ((m : Counts) → IsMix units have currency amount m → ⊥)
    (λ n. IsMix units have currency amount n × IsLeast units have currency amount n)

-- no value of the currency is above a number
abbrev pub AreAtMost : ℕ → List ℕ → List NoteKind → Type 0
AreAtMost most currency kinds = All (λ k. bytes_eq k.currency currency ≡ true → k.value ≤ most) kinds

-- counts of more than 60 notes are none
abbrev pub without_many : Option Counts → Option Counts
without_many None = None
without_many (Some n) = if nat_lt 60 (sum n.0) then None else Some n

-- each mix for an amount has more than 60 notes
abbrev pub AreMany : List NoteKind → Counts → List ℕ → ℕ → Type 0
AreMany units have currency amount = (n : Counts) → IsMix units have currency amount n → 60 < sum n.0

-- the least mix for an amount, if it has at most 60 notes
abbrev pub IsBestOfSixty : List NoteKind → Counts → List ℕ → ℕ → Option Counts → Type 0
IsBestOfSixty units have currency amount best =
    MatchOption best (AreMany units have currency amount)
    (λ n. IsMix units have currency amount n × IsLeast units have currency amount n × (sum n.0 ≤ 60))

-- the least mix for an amount; or there is none, or each has more than 60 notes
abbrev pub IsAnswer : List NoteKind → Counts → List ℕ → ℕ → Result Counts MixFault → Type 0
IsAnswer units have currency amount (Ok n) = IsMix units have currency amount n × IsLeast units have currency amount n × (sum n.0 ≤ 60)
IsAnswer units have currency amount (Err Nothing) = (n : Counts) → IsMix units have currency amount n → ⊥
IsAnswer units have currency amount (Err TooMany) = ((n : Counts) × IsMix units have currency amount n) × AreMany units have currency amount
IsAnswer units have currency amount (Err Memory) = ⊤
