use Rattle.std.proofs.Common.{◌∙◌, sym}
use Rattle.xfs_simulated.proofs.NewsLaws.{entries-none, entry-pushed}
use Rattle.xfs_simulated.proofs.news.key_news.Goals as goal

pub loop-init : goal.loop-init
loop-init c = c.new-touches.ensures.items ∙ sym entries-none

pub loop-preserved : goal.loop-preserved
loop-preserved c =
    rw (c.in_ok-push-5.ensures.items, c.in_ok-push-4.ensures.items, c.in_ok-push-3.ensures.items, c.in_ok-push-2.ensures.items, c.in_ok-push.ensures.items, c.loop.invariant)
    (entry-pushed c.loop.counter)
