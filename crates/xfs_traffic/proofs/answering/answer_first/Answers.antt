use Rattle.std.proofs.Common.{◌≡◌, Some, find, sym}
use Rattle.xfs_queue.specs.Commands.{is_ready}
use Rattle.xfs_model.specs.State.{queue_of}
use Rattle.xfs_traffic.proofs.AnswerLaws.{answered_with, pending_one}
use Rattle.xfs_traffic.specs.Parts.{with_traffic}
use Rattle.xfs_traffic.proofs.answering.answer_first.Goals as goal

pub remove-requires : goal.remove-requires
remove-requires c =
    let there : find (λ a. is_ready a.stage) (queue_of c.args.traffic.now.queues c.args.service) ≡ Some c.in-Some.command.now = rw c.at.ensures at (sym c.in-Some.ensures) in
    rw c.ticket-ticket.ensures (pending_one (λ a. is_ready a.stage) (queue_of c.args.traffic.now.queues c.args.service) c.in-Some.command.now there)

pub returns-clause-answers : goal.returns-clause-answers
returns-clause-answers c = λ s.
    let there : find (λ a. is_ready a.stage) (queue_of c.args.traffic.now.queues c.args.service) ≡ Some c.in-Some.command.now = rw c.at.ensures at (sym c.in-Some.ensures) in
    answered_with (with_traffic s c.args.traffic.now) c.args.service c.in-Some.command.now c.in-Some-outcome.outcome c.in_ok-before.before c.in_ok-before.last c.mail.new.connections c.remove.new.self
    there (rw (← c.command.view_is) c.in-Some-outcome.is) c.in_ok-before.ensures.before (rw (← c.command.view_is) c.in_ok-before.ensures.last)
    (rw c.ticket-ticket.ensures at c.in_ok-mail.ensures.ok) (rw c.ticket-ticket.ensures at c.remove.ensures)
