use Rattle.std.proofs.Common.{◌≡◌, ◌-◌, is_some, drop, map}
use Rattle.std.specs.List.{list_any}
use Rattle.xfs_token.specs.Amounts.{dispense_values}
use Rattle.xfs_token.specs.Pairs.{pair_of}
use Rattle.xfs_token.proofs.dispense.any_from.Given as goal

-- none is there before this number
abbrev pub invariant-loop-number : goal.invariant-loop-number
invariant-loop-number l = list_any is_some (drop (l.fn.first - 1) (dispense_values (map pair_of l.fn.pairs))) ≡ list_any is_some (drop (l.number - 1) (dispense_values (map pair_of l.fn.pairs)))
