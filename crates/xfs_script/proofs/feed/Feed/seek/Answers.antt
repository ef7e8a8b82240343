use Rattle.std.proofs.Common.{◌≡◌, length, arith, ap, sym, ◌∙◌}
use Rattle.xfs_script.specs.Lines.{line_end}
use Rattle.xfs_script.proofs.Blocks.{Grows-trans, Grows-searched}
use Rattle.xfs_script.proofs.feed.Feed.seek.Goals as goal

pub reading-preserved : goal.reading-preserved
reading-preserved g c =
    let left = g.S.Source.left in
    let is : c.end_of_line-place.result ≡ line_end c.reading.self.pending = c.end_of_line-place.ensures.is ∙ ap line_end c.bytes.ensures in
    let size : c.end_of_line-place.result ≡ length c.reading.self.pending = omega (arith, ap length c.bytes.ensures) in
    let more = Grows-searched c.reading.self c.fill.new.self (left c.reading.source) (left c.fill.new.source) c.in_ok-fill.ensures.grown (sym is ∙ size) in
    record {
      searched = omega (arith, more, size);
      grown = Grows-trans c.args.self.now c.reading.self c.fill.new.self (left c.args.source.now) (left c.reading.source) (left c.fill.new.source) c.reading.invariant.grown c.in_ok-fill.ensures.grown;
      later = omega (arith, c.in_ok-fill.ensures.cause);
    }
