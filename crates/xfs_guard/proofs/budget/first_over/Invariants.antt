use Rattle.std.proofs.Common.{◌≡◌, ◌-◌, drop, length}
use Rattle.xfs_guard.specs.OverBudget.{is_over, first_currency}
use Rattle.xfs_guard.proofs.budget.first_over.Given as goal

-- the first of the currencies that were looked at, from the last on
abbrev pub invariant-loop-i : goal.invariant-loop-i
invariant-loop-i g l = l.first ≡ first_currency (is_over l.ledger.units l.ledger.records l.transport l.amounts l.counts) (drop (length l.kinds - l.i) l.kinds)
