use Rattle.std.proofs.Common.{[], ap, map, ◌∙◌}
use Rattle.xfs_token.specs.Token.{is_nonce, may_follow}
use Rattle.xfs_token.specs.Pairs.{pair_of}
use Rattle.xfs_token.proofs.Tails.{zeros_mac}
use Rattle.xfs_token.proofs.token.Token.begun.Goals as goal

pub invariant_of-result : goal.invariant_of-result
invariant_of-result c = record {
  nonce = ap is_nonce c.in_ok-from_slice.ensures.items ∙ c.requires;
  pairs = ap (λ l. may_follow [] (map pair_of l)) c.new.ensures.items;
  mac = zeros_mac;
}
