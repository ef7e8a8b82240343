use Rattle.std.proofs.Common.{◌≡◌, ◌++◌, length}
use Rattle.xfs_token.proofs.Tails.{front_text}
use Rattle.xfs_token.proofs.reader.tail.Given as goal

-- the pairs that are read, and the rest
abbrev pub invariant-loop-token : goal.invariant-loop-token
invariant-loop-token l = record {
  nonce_kept : l.token.nonce ≡ l.initial.token.nonce;
  is : l.text ≡ front_text l.token.pairs ++ l.rest;
}

abbrev pub decreases-loop-token : goal.decreases-loop-token
decreases-loop-token l = length l.rest
