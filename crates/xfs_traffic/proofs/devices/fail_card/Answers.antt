use Rattle.serde_json.specs.View.{view}
use Rattle.xfs_base.specs.declared.moment.Service.TheVariants.{Card}
use Rattle.xfs_card.specs.Table.{done, nothing}
use Rattle.xfs_card.specs.declared.state.CardEvent.TheVariants.{Fault}
use Rattle.xfs_traffic.proofs.HeardLaws.{heard_nothing, touches_card}
use Rattle.xfs_traffic.proofs.devices.fail_card.Goals as goal

pub returns-in-Done-clause-touches : goal.returns-in-Done-clause-touches
returns-in-Done-clause-touches c = λ s.
    touches_card (record s { slot = c.args.slot.now; queues = c.args.queues.now }) Fault (done c.in-Done.code (view c.in-Done.payload)) c.step.new.state (record s { slot = c.step.new.state; queues = c.end_running.new.queues })
    (rw c.in-Done.is at c.in_ok-code.ensures.row) (rw c.new.ensures at (c.end_running.ensures (record s { slot = c.step.new.state })))

pub returns-in-Nothing-clause-touches : goal.returns-in-Nothing-clause-touches
returns-in-Nothing-clause-touches c = λ s.
    let after = record s { slot = c.step.new.state; queues = c.args.queues.now } in
    touches_card (record s { slot = c.args.slot.now; queues = c.args.queues.now }) Fault nothing c.step.new.state after (rw c.in-Nothing.is at c.in_ok-code.ensures.row)
    (heard_nothing after Card (rw c.at.ensures at c.commands-kept.ensures.valid))
