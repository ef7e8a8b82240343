use Rattle.serde_json.specs.View.{view}
use Rattle.xfs_queue.specs.Commands.{is_waiting}
use Rattle.xfs_model.specs.State.{queue_of}
use Rattle.xfs_traffic.specs.Parts.{at_card}
use Rattle.xfs_traffic.proofs.ChangeLaws.{waits_there}
use Rattle.xfs_machine.proofs.BegunLaws.{card_ended}
use Rattle.xfs_machine.proofs.begin.begin_card.Goals as goal

pub set_result-requires : goal.set_result-requires
set_result-requires c = waits_there (λ b. is_waiting b.stage) c.args.ticket (queue_of c.args.traffic.now.queues c.args.service) c.requires.waiting

pub returns-clause-begins : goal.returns-clause-begins
returns-clause-begins c = λ s a same.
    card_ended (at_card s c.args.slot.now c.args.traffic.now) c.args.service c.args.ticket a c.args.ask c.in-Done.code (view c.in-Done.payload) c.step.new.state c.set_result.new.self same
    (rw c.in-Done.is at c.in_ok-code.ensures.row) (rw c.new.ensures at c.set_result.ensures)
