use Rattle.std.proofs.Common.{◌/◌, ◌%◌, ◌+◌, ◌∷◌, [], ◌∙◌}
use Rattle.std.specs.Prelude.{decimal}
use Rattle.xfs_evidence.proofs.Spelling.{pair-chain}
use Rattle.xfs_evidence.proofs.text.push_pair.Goals as goal

pub returns : goal.returns
returns c =
    let n = c.args.amount.0 in
    pair-chain _ _ _ _ _ _ _ _ _ (decimal (n / 1000)) (46 ∷ (48 + n / 100 % 10) ∷ (48 + n / 10 % 10) ∷ []) c.args.currency c.args.number c.in_ok-extend_from_slice.ensures.items c.in_ok-extend_from_slice-2.ensures.items
    c.in_ok-extend_from_slice-3.ensures.items c.in_ok-extend_from_slice-4.ensures.items c.in_ok-extend_from_slice-5.ensures.items (c.as_bytes.ensures.value ∙ c.format.ensures.text) c.decimals_of.ensures c.letters.ensures.now
