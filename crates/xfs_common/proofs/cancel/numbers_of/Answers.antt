use Rattle.std.proofs.Common.{arith}
use Rattle.xfs_common.proofs.IdLaws.{ids-start, ids-step, ids-stop, ids-end}
use Rattle.xfs_common.proofs.cancel.numbers_of.Goals as goal

pub loop-item-init : goal.loop-item-init
loop-item-init c = record {
  left = rw c.in_ok-ids.ensures.items (ids-start c.args.items.now);
  long = c.in_ok-ids.ensures.len;
  room = omega (arith, c.in_ok-ids.ensures.capacity);
}

pub push_reserved-requires : goal.push_reserved-requires
push_reserved-requires c = omega (arith, c.loop-item.invariant.long, c.loop-item.invariant.room)

pub returns-in-None-clause-shape : goal.returns-in-None-clause-shape
returns-in-None-clause-shape c = λ _. ids-stop c.args.items.now c.loop-item.item-index c.item-item.result c.loop-item.ids.items c.loop-item-test.true c.item-item.is (c.in-None.ensures) c.loop-item.invariant.left

pub loop-item-preserved : goal.loop-item-preserved
loop-item-preserved c = record {
  left = rw c.push_reserved.ensures.items (ids-step c.args.items.now c.loop-item.item-index c.item-item.result c.loop-item.ids.items c.in-Some.id c.loop-item-test.true c.item-item.is c.in-Some.ensures c.loop-item.invariant.left);
  long = omega (arith, c.push_reserved.ensures.len, c.loop-item.invariant.long);
  room = omega (arith, c.push_reserved.ensures.capacity, c.loop-item.invariant.room);
}

pub returns-clause-ok : goal.returns-clause-ok
returns-clause-ok c = rw c.new.ensures (ids-end c.args.items.now c.loop-item.item-index c.loop-item.ids.items c.loop-item-test.false c.loop-item.invariant.left)
