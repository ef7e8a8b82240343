use Rattle.std.proofs.Common.{◌≡◌, ◌-◌, [], drop}
use Rattle.xfs_token.specs.Amounts.{IsAmounts, dispense_values}
use Rattle.xfs_token.proofs.Gathered.{gathered}
use Rattle.xfs_token.proofs.dispense.amounts.Given as goal

-- what is gathered, and the values that are left
abbrev pub invariant-loop-number : goal.invariant-loop-number
invariant-loop-number l = record {
  same : gathered [] (dispense_values l.fn.token.pairs) ≡ gathered l.amounts (drop (l.number - 1) (dispense_values l.fn.token.pairs));
  valid : IsAmounts l.amounts;
}
