use Rattle.std.proofs.Common.{◌≡◌}
use Rattle.xfs_simulated.specs.News.{entries}
use Rattle.xfs_simulated.proofs.news.key_news.Given as goal

abbrev pub invariant-loop : goal.invariant-loop
invariant-loop l = l.touches.items ≡ entries l.counter
