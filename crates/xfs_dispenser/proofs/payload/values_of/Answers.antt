use Rattle.std.proofs.Common.{get_or, sym, ap, arith}
use Rattle.serde_json.specs.View.{members_view}
use Rattle.xfs_dispenser.proofs.PayloadLaws.{values-end, values-step}
use Rattle.xfs_dispenser.proofs.payload.values_of.Goals as goal

pub loop-at-preserved : goal.loop-at-preserved
loop-at-preserved c =
    let i = c.loop-at.invariant in
    record {
      long = i.long;
      listed = values-step c.loop-at.at _ c.args.counts.now.0 (members_view c.loop-at.members.entries) (members_view c.put_count.new.members.entries) _ (omega (arith, i.long, c.loop-at-test.true)) (ap (λ k. get_or c.args.counts.now.0 k 0) (sym c.from.ensures)) c.in_ok-put_count.ensures.none c.in_ok-put_count.ensures.some i.listed;
    }

pub returns : goal.returns
returns c = let i = c.loop-at.invariant in values-end c.loop-at.at c.args.counts.now.0 (members_view c.loop-at.members.entries) _ (omega (arith, i.long, c.loop-at-test.false)) i.listed
