-- Counts that stand still at their last value, and lists that are told or not.
use Rattle.std.specs.Prelude.{ℕ, zero, suc, List, ◌++◌, option_map}
use Rattle.std.specs.declared.option.Option.{Option}
use Rattle.xfs_base.specs.Causes.{next_count}

-- a count after so many more
abbrev pub counted : ℕ → ℕ → ℕ
counted zero count = count
counted (suc n) count = next_count (counted n count)

-- a list that is told, with these behind it; one that isn't told stays untold
abbrev pub grown : {T : Type 0} → List T → Option (List T) → Option (List T)
grown more told = option_map (λ list. list ++ more) told
