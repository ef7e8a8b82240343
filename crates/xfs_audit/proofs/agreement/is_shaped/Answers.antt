use Rattle.std.proofs.Common.{None}
use Rattle.xfs_guard.specs.Agrees.{MayFollow, keep_last}
use Rattle.xfs_audit.proofs.Walks.{walk-more, walk-at, fold-at}
use Rattle.xfs_audit.proofs.agreement.is_shaped.Goals as goal

pub returns-then-not-may_follow : goal.returns-then-not-may_follow
returns-then-not-may_follow c =
    let owed = walk-at keep_last MayFollow None c.args.records.now c.loop-entry.entry-index c.entry-item.result c.loop-entry-test.true c.entry-item.is in
    (λ e. absurd (cc), λ w. (c.if-not-may_follow.ensures _ c.loop-entry.invariant.last).1 (owed w))

pub loop-entry-preserved : goal.loop-entry-preserved
loop-entry-preserved c = record {
  kept = walk-more keep_last MayFollow None c.args.records.now c.loop-entry.entry-index c.entry-item.result c.loop-entry-test.true c.entry-item.is c.loop-entry.invariant.kept ((c.if-not-may_follow.ensures _ c.loop-entry.invariant.last).0 (cc));
  last = rw (fold-at keep_last None c.args.records.now c.loop-entry.entry-index c.entry-item.result c.loop-entry-test.true c.entry-item.is) c.is_order-ordered.ensures;
}
