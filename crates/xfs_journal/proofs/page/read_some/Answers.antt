use Rattle.xfs_journal.proofs.Paged.{took_given}
use Rattle.xfs_journal.proofs.page.read_some.Goals as goal

pub returns-clause-took : goal.returns-clause-took
returns-clause-took g c =
    took_given _ c.args.page.now c.refill.new.self c.give.new.self c.args.out.now c.give.new.out c.give.new.out c.give.result c.args.most
    c.in_ok-refill.ensures.shows c.refill.ensures.at c.refill.ensures.len c.give.ensures.count c.give.ensures.out c.give.ensures.window c.give.ensures.at c.give.ensures.len
