use Rattle.std.proofs.Common.{◌≡◌, ◌++◌, map, drop}
use Rattle.xfs_token.specs.Token.{pairs_text}
use Rattle.xfs_token.specs.Pairs.{pair_of}
use Rattle.xfs_token.proofs.signing.text_of.Given as goal

-- what is written, and the pairs that are left
abbrev pub invariant-loop-p : goal.invariant-loop-p
invariant-loop-p l = l.text.items ++ pairs_text (map pair_of (drop l.p-index l.pairs)) ≡ pairs_text (map pair_of l.pairs)
