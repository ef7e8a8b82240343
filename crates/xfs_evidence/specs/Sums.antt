-- Which currency comes next, and what is told of the currencies so far.
use Rattle.std.specs.Prelude.{◌≡◌, ℕ, ◌+◌, ◌≤◌, ◌==◌, Bool, true, false, List, [], ◌∷◌, ◌++◌, Some, None, length, map, slice_get, if◌then◌else◌}
use Rattle.std.specs.declared.option.Option.{Option}
use Rattle.std.specs.List.{count_by}
use Rattle.xfs_base.specs.Money.{value}
use Rattle.xfs_base.specs.declared.money.NoteKind.{NoteKind}
use Rattle.xfs_token.specs.Amounts.{amount_in}
use Rattle.xfs_journal.specs.declared.record.Rec.{Rec}
use Rattle.xfs_journal.specs.declared.record.Rec.TheVariants.{Done}
use Rattle.xfs_guard.specs.Presented.{presented_in}
use Rattle.xfs_evidence.specs.Reading.{may_end}
use Rattle.xfs_evidence.specs.Told.{is_before, told_text, told_amounts, are_rising, AreTold}

-- a currency comes behind another; every one comes behind none
abbrev pub is_behind : Option (List ℕ) → List ℕ → Bool
is_behind None c = true
is_behind (Some d) c = is_before d c

-- of two currencies the earlier one
abbrev pub earlier : List ℕ → List ℕ → List ℕ
earlier first c = if is_before c first then c else first

-- the earliest currency so far, with one more currency
abbrev pub nearest : Option (List ℕ) → List ℕ → Option (List ℕ)
nearest None c = Some c
nearest (Some first) c = Some (earlier first c)

-- the earliest currency so far, with one more where that comes behind another
abbrev pub nearer : Option (List ℕ) → Option (List ℕ) → List ℕ → Option (List ℕ)
nearer after first c = if is_behind after c then nearest first c else first

-- some unit has this currency
pub record IsOfAUnit (units : List NoteKind) (currency : List ℕ) : Type 0 where
  pub place : ℕ
  pub kind : NoteKind
  pub there : slice_get units place ≡ Some kind
  pub same : kind.currency ≡ currency

-- of the currencies of the units that come behind one, this is the first; or there is none
abbrev pub IsNextCurrency : List NoteKind → Option (List ℕ) → Option (List ℕ) → Type 0
IsNextCurrency units after None = (kind : NoteKind) (place : ℕ) → slice_get units place ≡ Some kind → is_behind after kind.currency ≡ false
IsNextCurrency units after (Some c) = IsOfAUnit units c × (is_behind after c ≡ true)
    × ((kind : NoteKind) (place : ℕ) → slice_get units place ≡ Some kind → is_behind after kind.currency ≡ true → is_before kind.currency c ≡ false)

-- what a record adds to what was presented, where an order to present stands before it or not
abbrev pub added : List NoteKind → Bool → Rec → List ℕ → ℕ
added units true (Done moved diverted) currency = value units moved currency
added units ordered r currency = 0

-- what was presented in a segment, in each currency
pub record AreSegmentSums (units : List NoteKind) (segment : List Rec) (amounts : List (List ℕ × ℕ)) : Type 0 where
  pub told : AreTold amounts
  pub right : (currency : List ℕ) → amount_in amounts currency ≡ presented_in units segment currency

-- how many units have a currency that comes behind one
abbrev pub left_behind : List NoteKind → Option (List ℕ) → ℕ
left_behind units last = count_by (λ kind. is_behind last kind.currency) units

-- what was presented in a segment, in each currency up to this one
pub record AreSumsTo (units : List NoteKind) (segment : List Rec) (last : Option (List ℕ)) (amounts : List (List ℕ × ℕ)) : Type 0 where
  pub few : length amounts + left_behind units last ≤ length units
  pub rising : are_rising amounts ≡ true
  pub texts : told_amounts (map told_text amounts) ≡ Some amounts
  pub ended : (currency : List ℕ) → is_behind last currency ≡ true → may_end amounts currency ≡ true
  pub right : (currency : List ℕ) → is_behind last currency ≡ false → amount_in amounts currency ≡ presented_in units segment currency
  pub rest : (currency : List ℕ) → is_behind last currency ≡ true → amount_in amounts currency ≡ 0

-- one more amount behind others, where it isn't 0
abbrev pub with_worth : List (List ℕ × ℕ) → List ℕ → ℕ → List (List ℕ × ℕ)
with_worth amounts currency worth = if worth == 0 then amounts else (amounts ++ (currency, worth) ∷ [])
