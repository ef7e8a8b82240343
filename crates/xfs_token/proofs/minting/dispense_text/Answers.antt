use Rattle.xfs_token.proofs.Written.{dispense-step}
use Rattle.xfs_token.proofs.minting.dispense_text.Goals as goal

pub amounts-preserved : goal.amounts-preserved
amounts-preserved c = dispense-step _ _ _ c.args.amounts.now c.amounts.i _ c.at-currency.ensures c.in_ok-push_pair.ensures c.amounts.invariant
