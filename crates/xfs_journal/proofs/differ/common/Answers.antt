use Rattle.std.proofs.Common.{◌≡◌, true, length, refl, arith, rules}
use Rattle.std.proofs.lemmas.Option.{slice_get_read}
use Rattle.xfs_journal.proofs.Differing.{same_next}
use Rattle.xfs_journal.proofs.differ.common.Goals as goal

pub loop-count-preserved : goal.loop-count-preserved
loop-count-preserved c =
    let n = c.loop-count.count in
    let found = c.args.found.now in
    let kept = c.args.kept.now in
    let there = slice_get_read found (length found) n c.index-found-count.result refl c.loop-count-test.true c.index-found-count.is in
    let other = slice_get_read kept (length kept) n c.index-kept-count.result refl c.if-count-kept.true c.index-kept-count.is in
    let yes : c.is_same.result ≡ true = search rules in
    record {
      within = (omega (arith, c.loop-count-test.true), omega (arith, c.if-count-kept.true));
      same = same_next found kept n c.index-found-count.result c.index-kept-count.result c.loop-count.invariant.same there other (c.is_same.ensures.yes yes);
    }
