use Rattle.std.proofs.Common.{◌/◌, ◌∙◌}
use Rattle.std.specs.Prelude.{decimal}
use Rattle.xfs_token.specs.Amounts.{decimals}
use Rattle.xfs_token.proofs.Written.{pair-chain}
use Rattle.xfs_token.proofs.minting.push_pair.Goals as goal

pub returns : goal.returns
returns c =
    pair-chain _ _ _ _ _ _ _ _ _ (decimal (c.args.amount.0 / 1000)) (decimals c.args.amount.0) c.args.currency c.args.number c.in_ok-extend_from_slice.ensures.items c.in_ok-extend_from_slice-2.ensures.items
    c.in_ok-extend_from_slice-3.ensures.items c.in_ok-extend_from_slice-4.ensures.items c.in_ok-extend_from_slice-5.ensures.items (c.as_bytes.ensures.value ∙ c.format.ensures.text) c.decimals_of-len.ensures.digits c.letters.ensures.now
