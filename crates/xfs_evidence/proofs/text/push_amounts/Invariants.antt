use Rattle.std.proofs.Common.{◌≡◌, ◌+◌, ◌++◌, drop, map}
use Rattle.xfs_token.specs.Token.{pairs_text}
use Rattle.xfs_evidence.specs.Told.{presented_pairs, told_text}
use Rattle.xfs_evidence.proofs.text.push_amounts.Given as goal

-- what is written, and the pairs that are left
abbrev pub invariant-amounts : goal.invariant-amounts
invariant-amounts l = l.text.items ++ pairs_text (presented_pairs (l.i + 1) (map told_text (drop l.i l.amounts))) ≡ l.initial.text.items ++ pairs_text (presented_pairs 1 (map told_text l.amounts))
