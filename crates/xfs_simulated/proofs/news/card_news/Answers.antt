use Rattle.std.proofs.Common.{◌∙◌, sym}
use Rattle.xfs_simulated.proofs.NewsLaws.{visit-pushed, visits-none}
use Rattle.xfs_simulated.proofs.news.card_news.Goals as goal

pub loop-init : goal.loop-init
loop-init c = c.new-touches.ensures.items ∙ sym visits-none

pub loop-preserved : goal.loop-preserved
loop-preserved c = rw (c.in_ok-push-2.ensures.items, c.in_ok-push.ensures.items, c.loop.invariant, c.in_ok-card.ensures) (visit-pushed c.loop.counter)
