use Rattle.std.proofs.Common.{◌∙◌, ◌+◌, sym, ap, ap₂, drop, arith}
use Rattle.xfs_evidence.specs.Evidence.{is_unsettled, first_open}
use Rattle.xfs_evidence.proofs.Places.{open-on}
use Rattle.xfs_evidence.proofs.segment.open_order.Goals as goal

pub loop-i-preserved : goal.loop-i-preserved
loop-i-preserved c number =
    let is = ap₂ is_unsettled (sym c.index-segment-i.is) (sym c.split_at.ensures.back) ∙ sym c.is_unsettled.ensures ∙ c.if-is_unsettled.false in
    c.loop-i.invariant number ∙ open-on (number + c.loop-i.i) c.args.segment.now c.loop-i.i c.index-segment-i.result c.loop-i-test.true is ∙ ap (λ n. first_open n (drop (c.loop-i.i + 1) c.args.segment.now)) (omega arith)
