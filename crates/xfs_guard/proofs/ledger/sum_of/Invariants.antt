use Rattle.std.proofs.Common.{◌≡◌, take, false}
use Rattle.xfs_token.specs.Amounts.{has_currency}
use Rattle.xfs_guard.proofs.ledger.sum_of.Given as goal

abbrev pub invariant-loop-i : goal.invariant-loop-i
invariant-loop-i l = has_currency l.currency (take l.i l.amounts) ≡ false
