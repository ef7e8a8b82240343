use Rattle.std.proofs.Common.{take}
use Rattle.xfs_evidence.specs.Sums.{IsNextCurrency}
use Rattle.xfs_evidence.proofs.currencies.next_currency.Given as goal

-- of the units so far this is the first
abbrev pub invariant-loop-i : goal.invariant-loop-i
invariant-loop-i l = IsNextCurrency (take l.i l.kinds) l.after l.first
