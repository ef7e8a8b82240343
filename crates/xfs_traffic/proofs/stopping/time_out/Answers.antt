use Rattle.std.proofs.Common.{◌&&◌, sym, ◌∙◌}
use Rattle.xfs_queue.specs.Commands.{is_due, is_waiting, waits_on}
use Rattle.xfs_queue.specs.declared.command.Line.TheVariants.{Device}
use Rattle.xfs_model.specs.State.{queue_of}
use Rattle.xfs_traffic.proofs.AnswerLaws.{too_late}
use Rattle.xfs_traffic.proofs.ChangeLaws.{waits_there}
use Rattle.xfs_traffic.proofs.QueueTests.{none_there}
use Rattle.xfs_traffic.proofs.stopping.time_out.Goals as goal

pub unreachable-requires : goal.unreachable-requires
unreachable-requires c = none_there c.expire.result (λ a. waits_on Device a && is_due c.args.now a) (queue_of c.args.queues.now c.args.service) c.in_default.is (rw c.at.ensures at c.expire.ensures.found) c.requires.some

pub set_result-requires : goal.set_result-requires
set_result-requires c = waits_there (λ b. is_waiting b.stage) c.in-Some.ticket (queue_of c.args.queues.now c.args.service) (rw c.at.ensures at c.in-Some.ensures.waiting)

pub returns : goal.returns
returns c = λ s.
    too_late (record s { now = c.args.now; queues = c.args.queues.now }) c.args.service c.in-Some.ticket c.set_result.new.self
    (rw c.at.ensures at (sym c.in-Some.is ∙ c.expire.ensures.found)) (rw (c.new.ensures, c.nothing.ensures) at c.set_result.ensures)
