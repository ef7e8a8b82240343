use Rattle.std.proofs.Common.{arith}
use Rattle.std.proofs.lemmas.List.{drop_all}
use Rattle.xfs_evidence.proofs.Spelling.{pair-step, pair-end}
use Rattle.xfs_evidence.proofs.text.push_amounts.Goals as goal

pub amounts-preserved : goal.amounts-preserved
amounts-preserved c = pair-step _ _ _ c.args.amounts.now c.amounts.i _ c.at-currency.ensures c.in_ok-push_pair.ensures c.amounts.invariant

pub returns-clause-text : goal.returns-clause-text
returns-clause-text c = pair-end _ _ c.args.amounts.now c.amounts.i (drop_all c.amounts.i c.args.amounts.now (omega (arith, c.amounts-test.false, c.len-i-end.ensures.len))) c.amounts.invariant
