use Rattle.std.proofs.Common.{◌≡◌}
use Rattle.xfs_simulated.specs.News.{visits}
use Rattle.xfs_simulated.proofs.news.card_news.Given as goal

abbrev pub invariant-loop : goal.invariant-loop
invariant-loop l = l.touches.items ≡ visits l.counter
