use Rattle.xfs_token.proofs.Written.{covered-chain}
use Rattle.xfs_evidence.proofs.signing.covered_part.Goals as goal

pub returns : goal.returns
returns c ps e =
    covered-chain _ _ _ _ _ _ _ _ _ ps c.args.total c.in_ok-text.ensures.items c.in_ok-extend_from_slice.ensures.items c.in_ok-extend_from_slice-2.ensures.items c.in_ok-extend_from_slice-3.ensures.items
    c.in_ok-extend_from_slice-4.ensures.items c.in_ok-extend_from_slice-5.ensures.items c.digits.ensures e
