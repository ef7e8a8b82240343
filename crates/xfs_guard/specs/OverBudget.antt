-- In which currency counts exceed the amounts of a token.
use Rattle.std.specs.Prelude.{ℕ, ◌+◌, ◌-◌, nat_lt, Bool, List, [], ◌∷◌, Some, None, if◌then◌else◌}
use Rattle.std.specs.declared.option.Option.{Option}
use Rattle.std.specs.Option.{option_map}
use Rattle.std.specs.Cmp.Lexicographic.{slice_cmp}
use Rattle.std.specs.Ordering.{is_lt, nat_cmp}
use Rattle.xfs_base.specs.Money.{value}
use Rattle.xfs_base.specs.declared.counts.Counts.{Counts}
use Rattle.xfs_base.specs.declared.money.NoteKind.{NoteKind}
use Rattle.xfs_token.specs.Amounts.{amount_in}
use Rattle.xfs_journal.specs.declared.record.Rec.{Rec}
use Rattle.xfs_guard.specs.declared.deny.Deny.{Deny}
use Rattle.xfs_guard.specs.declared.deny.Deny.TheVariants.{OverBudget}
use Rattle.xfs_guard.specs.Presented.{presented_in}

-- what counts against the amounts in a currency: presented since the live Issue, and on the transport
abbrev pub spent : List NoteKind → List Rec → Counts → List ℕ → ℕ
spent units records transport c = presented_in units records c + value units transport c

-- with these counts on top, what counts against a currency's amount is worth more than that
abbrev pub is_over : List NoteKind → List Rec → Counts → List (List ℕ × ℕ) → Counts → List ℕ → Bool
is_over units records transport amounts counts c = nat_lt (amount_in amounts c) (spent units records transport c + value units counts c)

-- of two currencies the first in the order of letters
abbrev pub earlier : List ℕ → Option (List ℕ) → List ℕ
earlier c None = c
earlier c (Some d) = if is_lt (slice_cmp nat_cmp d c) then d else c

-- the first currency of the table, in the order of letters, that meets a test
abbrev pub first_currency : (List ℕ → Bool) → List NoteKind → Option (List ℕ)
first_currency test [] = None
first_currency test (k ∷ ks) = if test k.currency then Some (earlier k.currency (first_currency test ks)) else first_currency test ks

-- OverBudget, for the first currency in which the counts exceed the amounts, with what is left before them
abbrev pub over_budget_in : List NoteKind → List Rec → Counts → List (List ℕ × ℕ) → Counts → Option Deny
over_budget_in units records transport amounts counts =
    option_map (λ c. OverBudget c (record { 0 = amount_in amounts c - spent units records transport c })) (first_currency (is_over units records transport amounts counts) units)
