use Rattle.std.proofs.Common.{subst, sym}
use Rattle.xfs_audit.specs.Ways.{IsKnown, IsMore}
use Rattle.xfs_audit.proofs.Adding.{more-pushed, more-known}
use Rattle.xfs_audit.proofs.way.add.Goals as goal

pub returns-in_ok-push : goal.returns-in_ok-push
returns-in_ok-push c = subst (λ l. IsMore c.args.way c.args.ways.now.items l) (sym c.in_ok-push.ensures.items) (more-pushed c.args.way c.args.ways.now.items)

pub returns-else-not-is_known : goal.returns-else-not-is_known
returns-else-not-is_known c =
    more-known c.args.way c.args.ways.now.items (subst (λ l. IsKnown l c.args.way) c.deref.ensures.value (c.is_known.ensures c.if-not-is_known.false))
