use Rattle.std.proofs.Common.{sym, ◌∙◌}
use Rattle.xfs_audit.proofs.way.is_known.Goals as goal

pub returns-then-are_same : goal.returns-then-are_same
returns-then-are_same c = λ _. record {
  known = c.known-item.result;
  there = (c.loop-known.known-index, c.loop-known-test.true, sym c.known-item.is);
  stays = c.if-known-way.true;
  due = sym c.deref.ensures.value ∙ c.are_same.ensures c.if-are_same.true ∙ c.deref-then-known-way.ensures.value;
}
