use Rattle.std.proofs.Common.{refl, arith}
use Rattle.serde_json.specs.View.{members_view}
use Rattle.xfs_dispenser.proofs.PayloadLaws.{currencies-step}
use Rattle.xfs_dispenser.proofs.payload.currencies_of.Goals as goal

pub loop-at-preserved : goal.loop-at-preserved
loop-at-preserved c =
    let i = c.loop-at.invariant in
    record {
      long = i.long;
      few = i.few;
      listed = currencies-step c.args.units.now c.args.counts.now c.loop-at.at _ c.index-kinds-at.result (members_view c.loop-at.members.entries) (members_view c.put_currency.new.map.entries) _
          (rw c.kinds-kinds.ensures.now at c.loop-at-test.true) (rw c.kinds-kinds.ensures.now at c.index-kinds-at.is) (omega (arith, i.long, i.few, rw c.kinds-kinds.ensures.now at c.loop-at-test.true)) refl c.in_ok-put_currency.ensures.none c.in_ok-put_currency.ensures.some i.listed;
    }
