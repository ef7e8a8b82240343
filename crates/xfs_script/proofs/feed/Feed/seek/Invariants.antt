use Rattle.std.proofs.Common.{◌≤◌, ◌-◌}
use Rattle.xfs_script.specs.Lines.{line_end}
use Rattle.xfs_script.specs.Reading.{Grows}
use Rattle.xfs_script.proofs.feed.Feed.seek.Given as goal

abbrev pub invariant-reading : goal.invariant-reading
invariant-reading g l = record {
  searched : l.searched ≤ line_end l.self.pending;
  grown : Grows l.fn.self l.self (g.S.Source.left l.fn.source) (g.S.Source.left l.source);
  later : g.S.Source.faults l.fn.source ≤ g.S.Source.faults l.source;
}

abbrev pub decreases-reading : goal.decreases-reading
decreases-reading g l = 67108864 - l.self.given
