use Rattle.std.proofs.Common.{◌≡◌, take, arith}
use Rattle.std.proofs.lemmas.List.{take_all}
use Rattle.xfs_audit.specs.Flow.{IsFlow}
use Rattle.xfs_audit.proofs.Flows.{flow-more, small-more, joined, left-astray, balances}
use Rattle.xfs_audit.proofs.places.leads_to.Goals.{After-joins}
use Rattle.xfs_audit.proofs.places.leads_to.Goals as goal

pub loop-entry-preserved : goal.loop-entry-preserved
loop-entry-preserved c = record {
  read = flow-more _ _ _ _ (omega arith) (c.add.ensures.added _ c.loop-entry.invariant.read);
  small = small-more _ _ (c.add.ensures.small _ c.loop-entry.invariant.small);
}

-- all motions were read
whole : (c : After-joins) → IsFlow c.args.motions.now c.loop-entry.flow
whole c =
    let all : take c.loop-entry.entry-index c.args.motions.now ≡ c.args.motions.now = take_all c.loop-entry.entry-index c.args.motions.now (omega (arith, c.loop-entry-test.false)) in
    rw all at c.loop-entry.invariant.read

pub returns : goal.returns
returns c =
    let from = c.args.from.now in
    let to = c.args.to.now in
    let flow = c.loop-entry.flow in (
      λ yes. let h = (c.joins.ensures.joins).0 yes in joined from to _ flow (whole c) h.0 h.1,
      λ places. let none = left-astray from to _ flow (whole c) c.joins.ensures.past places in (c.joins.ensures.joins).1 (none, balances from to _ flow (whole c) none places),
    )
