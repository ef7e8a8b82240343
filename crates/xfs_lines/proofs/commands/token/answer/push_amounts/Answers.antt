use Rattle.std.proofs.Common.{arith}
use Rattle.xfs_lines.proofs.TokenTexts.{amounts-first, amounts-step}
use Rattle.xfs_lines.proofs.commands.token.answer.push_amounts.Goals as goal

pub amounts-init : goal.amounts-init
amounts-init c = record {
  low = omega arith;
  text = amounts-first c.args.amounts.now _ c.args.text.now.items _ c.at-currency.ensures c.in_ok-push_amount.ensures;
}

pub amounts-preserved : goal.amounts-preserved
amounts-preserved c = record {
  low = omega (arith, c.amounts.invariant.low);
  text = amounts-step c.args.amounts.now c.amounts.i _ c.args.text.now.items _ _ _ c.amounts.invariant.low c.at-currency-in-amounts.ensures c.amounts.invariant.text c.in_ok-extend_from_slice.ensures.items c.in_ok-push_amount-2.ensures;
}
