-- An amount is reached where counts of notes within limits are worth it. How few notes of one unit that takes tells, amount by amount, what is reached once the unit's notes are allowed.
use Rattle.std.specs.Prelude.{◌≡◌, ℕ, ◌+◌, ◌≤◌, ◌<◌, Bool, true, false, List, length, MatchOption, None, Some, slice_get, slice_index_or, nat_lt, if◌then◌else◌}
use Rattle.std.specs.declared.option.Option.{Option}
use Rattle.std.specs.Str.{bytes_eq}
use Rattle.xfs_base.specs.declared.counts.Counts.{Counts}
use Rattle.xfs_base.specs.declared.money.NoteKind.{NoteKind}
use Rattle.xfs_base.specs.Counts.{at}
use Rattle.xfs_mix.specs.Mix.{IsMix, IsWithin, IsRaised}

-- there are counts for the amount; or there are none
abbrev pub IsReached : List NoteKind → Counts → List ℕ → ℕ → Bool → Type 0
IsReached units have currency amount true = (n : Counts) × IsMix units have currency amount n
IsReached units have currency amount false = (n : Counts) → IsMix units have currency amount n → ⊥

-- no counts within limits are worth an amount
abbrev pub IsOutOfReach : List NoteKind → Counts → List ℕ → ℕ → Type 0
IsOutOfReach units limits currency amount = (n : Counts) → IsWithin units limits currency amount n → ⊥

-- some counts within limits are worth an amount
pub record IsInReach (units : List NoteKind) (limits : Counts) (currency : List ℕ) (amount : ℕ) : Type 0 where
  pub counts : Counts
  pub eight : length counts.0 ≡ 8
  pub within : IsWithin units limits currency amount counts

-- whether an amount is reached within limits, at each amount below the table's length
abbrev pub IsReachTable : List NoteKind → Counts → List ℕ → List (Option ℕ) → Type 0
IsReachTable units limits currency table =
    (a : ℕ) (d : Option ℕ) → a < length table → MatchOption (slice_index_or table a d) (IsOutOfReach units limits currency a) (λ k. IsInReach units limits currency a)

-- some counts for an amount have so many notes of a unit, and none have fewer
pub record NeedsOf (units : List NoteKind) (limits : Counts) (currency : List ℕ) (u amount k : ℕ) : Type 0 where
  pub reach : IsInReach units limits currency amount
  pub uses : at reach.counts u ≡ k
  pub fewest : (n : Counts) → IsWithin units limits currency amount n → k ≤ at n u

-- how few notes of a unit an amount needs, if it is reached
abbrev pub IsLeastUse : List NoteKind → Counts → List ℕ → ℕ → ℕ → Option ℕ → Type 0
IsLeastUse units limits currency u amount use_of = MatchOption use_of (IsOutOfReach units limits currency amount) (NeedsOf units limits currency u amount)

-- how few notes of a unit an amount needs, by whether it is reached without them, and by what the amount without one note needs
abbrev pub least_use : ℕ → Option ℕ → Option ℕ → Option ℕ
least_use count (Some k) one_less = Some 0
least_use count None None = None
least_use count None (Some k) = if nat_lt k count then Some (k + 1) else None

-- all notes of a unit of the currency are allowed, of which none were
pub record IsOpened (units : List NoteKind) (currency : List ℕ) (u count value : ℕ) (old new : Counts) : Type 0 where
  pub kind : NoteKind
  pub stands : slice_get units u ≡ Some kind
  pub of : bytes_eq kind.currency currency ≡ true
  pub worth : kind.value ≡ value
  pub some : 0 < value
  pub none : at old u ≡ 0
  pub raised : IsRaised u count old.0 new.0

-- the table in the middle of a pass: below the place a the unit's notes are counted in
pub record IsUsedTo (units : List NoteKind) (currency : List ℕ) (u : ℕ) (old new : Counts) (a : ℕ) (table : List (Option ℕ)) : Type 0 where
  pub done : (b : ℕ) (d : Option ℕ) → b < a → b < length table → IsLeastUse units new currency u b (slice_index_or table b d)
  pub left : (b : ℕ) (d : Option ℕ) → a ≤ b → b < length table → MatchOption (slice_index_or table b d) (IsOutOfReach units old currency b) (λ k. IsInReach units old currency b)
