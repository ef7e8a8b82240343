use Rattle.std.proofs.Common.{refl, inl, rules}
use Rattle.xfs_guard.proofs.ledger.sum_of.Goals as goal

pub returns-then-eq : goal.returns-then-eq
returns-then-eq c = inl (record {
  place = c.loop-i.i;
  amount = (c.at.result.0, c.at.result.1.0);
  there = c.at.ensures;
  same = search rules;
  sum_is = rw c.from.ensures refl;
})
