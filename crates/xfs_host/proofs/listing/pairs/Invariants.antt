use Rattle.std.proofs.Common.{◌≡◌, ◌++◌}
use Rattle.xfs_host.proofs.listing.pairs.Given as goal

abbrev pub invariant-loop-number : goal.invariant-loop-number
invariant-loop-number l = l.list.items ++ l.number-iterator ≡ l.accounts.entries
