use Rattle.std.proofs.Common.{arith, ap}
use Rattle.xfs_script.proofs.Blocks.{Drops-more, Drops-all, cleared}
use Rattle.xfs_script.proofs.feed.Feed.skip_line.Goals as goal

pub dropping-preserved : goal.dropping-preserved
dropping-preserved g c =
    let left = g.S.Source.left in
    let found = c.in_ok-seek.ensures.ok in
    let more = Drops-more c.args.self.now c.dropping.self c.seek.new.self (left c.args.source.now) (left c.dropping.source) (left c.seek.new.source) c.dropping.invariant.drops c.dropping.invariant.empty c.in_ok-seek.ensures.grown in
    let none = cleared c.seek.new.self c.skip-in-Long.new.self c.len-in-Long.result (omega arith) c.skip-in-Long.ensures in
    record {
      empty = ap (λ k. k.pending) none;
      drops = Drops-all c.args.self.now c.seek.new.self c.skip-in-Long.new.self (left c.args.source.now) (left c.seek.new.source) more (rw c.in-Long.is at found).0 none;
      later = omega (arith, c.in_ok-seek.ensures.cause);
    }
