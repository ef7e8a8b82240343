use Rattle.xfs_journal.proofs.Differing.{parts, within_parts}
use Rattle.xfs_journal.proofs.differ.parts_at.Goals as goal

pub returns-then-count-kept-clause-parts : goal.returns-then-count-kept-clause-parts
returns-then-count-kept-clause-parts c =
    let found = c.args.found.now in
    let kept = c.args.kept.now in
    let n = c.common-count.result in
    within_parts found kept c.args.in_doubt.now n c.if-count-kept.true c.common-count.ensures.same (parts found kept n c.if-count-kept.true c.common-count.ensures.differs)
