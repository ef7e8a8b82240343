use Rattle.std.proofs.Common.{◌≡◌, ◌≤◌, ◌-◌, []}
use Rattle.xfs_script.specs.Reading.{Drops}
use Rattle.xfs_script.proofs.feed.Feed.skip_line.Given as goal

abbrev pub invariant-dropping : goal.invariant-dropping
invariant-dropping g l = record {
  empty : l.self.pending ≡ [];
  drops : Drops l.fn.self l.self (g.S.Source.left l.fn.source) (g.S.Source.left l.source);
  later : g.S.Source.faults l.fn.source ≤ g.S.Source.faults l.source;
}

abbrev pub decreases-dropping : goal.decreases-dropping
decreases-dropping g l = 67108864 - l.self.given
