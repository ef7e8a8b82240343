use Rattle.std.proofs.Common.{◌≡◌, ◌+◌, length, refl, arith, rules}
use Rattle.std.proofs.lemmas.Option.{slice_get_read}
use Rattle.xfs_journal.proofs.Differing.{block_size, front_next, front-take}
use Rattle.xfs_journal.proofs.differ.size_of.Goals as goal

pub overflow_add-size : goal.overflow_add-size
overflow_add-size c =
    let i = c.loop-i.i in
    let all = c.args.records.now in
    let there = slice_get_read all (length all) i c.index-records-i.result refl c.loop-i-test.true c.index-records-i.is in
    let size : c.len.result ≡ length c.fill.new.out = search rules in
    omega (arith, size, block_size c.index-records-i.result c.fill.new.out c.fill.ensures.items, c.loop-i.invariant, c.requires.small, front_next all i c.index-records-i.result there, front-take all (i + 1))

pub loop-i-preserved : goal.loop-i-preserved
loop-i-preserved c =
    let i = c.loop-i.i in
    let all = c.args.records.now in
    let there = slice_get_read all (length all) i c.index-records-i.result refl c.loop-i-test.true c.index-records-i.is in
    let size : c.len.result ≡ length c.fill.new.out = search rules in
    omega (arith, size, block_size c.index-records-i.result c.fill.new.out c.fill.ensures.items, c.loop-i.invariant, front_next all i c.index-records-i.result there)
