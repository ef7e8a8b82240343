use Rattle.std.proofs.Common.{◌≡◌, ◌+◌, ◌++◌, drop}
use Rattle.xfs_token.specs.Token.{pairs_text}
use Rattle.xfs_token.specs.Amounts.{dispense_pairs}
use Rattle.xfs_token.proofs.minting.dispense_text.Given as goal

-- what is written, and the pairs that are left
abbrev pub invariant-amounts : goal.invariant-amounts
invariant-amounts l = l.text.items ++ pairs_text (dispense_pairs (l.i + 1) (drop l.i l.amounts)) ≡ pairs_text (dispense_pairs 1 l.amounts)
