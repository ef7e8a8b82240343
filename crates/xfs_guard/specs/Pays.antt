-- What an order adds to the sums of a bind: what it presented, in each of the bound currencies.
use Rattle.std.specs.Prelude.{◌≡◌, ◌≢◌, ℕ, ◌+◌, ◌<◌, ◌^◌, ◌⊎◌, false, List, slice_get, slice_index, Some, None, ⊤}
use Rattle.std.specs.declared.option.Option.{Option}
use Rattle.xfs_base.specs.Money.{value}
use Rattle.xfs_base.specs.declared.counts.Counts.{Counts}
use Rattle.xfs_base.specs.declared.counts.Kind.{Kind}
use Rattle.xfs_base.specs.declared.counts.Kind.TheVariants.{Present}
use Rattle.xfs_base.specs.declared.money.NoteKind.{NoteKind}
use Rattle.xfs_token.specs.Amounts.{has_currency}
use Rattle.xfs_guard.specs.declared.bound.Bound.{Bound}

-- with these notes the sum beside each amount stays within 64 bits
abbrev pub StayWithin : List NoteKind → Counts → List (List ℕ × ℕ) → List ℕ → Type 0
StayWithin units moved amounts sums = (i : ℕ) (a : List ℕ × ℕ) → slice_get amounts i ≡ Some a → slice_index sums i + value units moved a.0 < 2 ^ 64

-- the sum beside each amount grows by what these notes are worth in its currency
abbrev pub GrowBy : List NoteKind → Counts → List (List ℕ × ℕ) → List ℕ → List ℕ → Type 0
GrowBy units moved amounts old new = (i : ℕ) (a : List ℕ × ℕ) → slice_get amounts i ≡ Some a → slice_index new i ≡ slice_index old i + value units moved a.0

-- what an order to present moves keeps the sums of a bind within 64 bits
abbrev pub FitsSums : List NoteKind → Kind → Counts → Option Bound → Type 0
FitsSums units kind moved None = ⊤
FitsSums units kind moved (Some b) = kind ≡ Present → StayWithin units moved b.amounts b.presented

-- the sums of a bind grow by what was presented
pub record AddsPresented (units : List NoteKind) (kind : Kind) (moved : Counts) (old new : Bound) : Type 0 where
  pub number : new.number ≡ old.number
  pub amounts : new.amounts ≡ old.amounts
  pub present : kind ≡ Present → GrowBy units moved old.amounts old.presented new.presented
  pub other : kind ≢ Present → new.presented ≡ old.presented

-- an order that moved these notes leaves no bind where none was, and else one whose sums grew
abbrev pub GrowsSums : List NoteKind → Kind → Counts → Option Bound → Option Bound → Type 0
GrowsSums units kind moved None None = ⊤
GrowsSums units kind moved (Some old) (Some new) = AddsPresented units kind moved old new
GrowsSums units kind moved old new = ⊥

-- the sum that stands beside an amount in this currency
pub record IsSumAt (amounts : List (List ℕ × ℕ)) (sums currency : List ℕ) (sum : ℕ) : Type 0 where
  pub place : ℕ
  pub amount : List ℕ × ℕ
  pub there : slice_get amounts place ≡ Some amount
  pub same : amount.0 ≡ currency
  pub sum_is : sum ≡ slice_index sums place

-- the sum of a currency, and 0 where the amounts have none of it
abbrev pub IsSumOf : List (List ℕ × ℕ) → List ℕ → List ℕ → ℕ → Type 0
IsSumOf amounts sums currency sum = IsSumAt amounts sums currency sum ⊎ ((has_currency currency amounts ≡ false) × (sum ≡ 0))
