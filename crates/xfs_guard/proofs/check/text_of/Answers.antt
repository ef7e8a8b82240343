use Rattle.std.proofs.Common.{length, length-append, ap, arith, sym, true≢false}
use Rattle.xfs_guard.proofs.check.text_of.Goals as goal

pub unreachable-requires : goal.unreachable-requires
unreachable-requires c =
    let start = ap length c.new-list.ensures.items in
    let joined = length-append c.new-list.result.items c.args.bytes.now in
    let copied = ap length c.in_ok-extend_from_slice.ensures.items in
    true≢false (sym (c.in-None.ensures.valid.1 (omega (arith, c.requires.low, start, joined, copied), omega (arith, c.requires.high, start, joined, copied))))
