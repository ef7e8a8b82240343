use Rattle.std.proofs.Common.{◌≡◌, ◌||◌, sym, ◌∙◌}
use Rattle.std.specs.Prelude.{if◌then◌else◌}
use Rattle.xfs_envelope.specs.declared.code.Code.TheVariants.{Canceled, TimeOut}
use Rattle.xfs_queue.specs.Commands.{is_due}
use Rattle.xfs_model.specs.State.{State, queue_of}
use Rattle.xfs_traffic.specs.Parts.{with_devices}
use Rattle.xfs_traffic.proofs.AnswerLaws.{stops}
use Rattle.xfs_traffic.proofs.QueueTests.{none_runs}
use Rattle.std.proofs.lemmas.Bool.{false≢true}
use Rattle.xfs_traffic.proofs.stopping.stop_running.Goals as goal
use Rattle.xfs_traffic.proofs.stopping.stop_running.Goals.{then-command, else-command}

pub unreachable-requires : goal.unreachable-requires
unreachable-requires c =
    false≢true (sym (none_runs (λ a. a.marked || is_due c.args.now a) (queue_of c.args.queues.now c.args.service) (sym (rw (c.in_default.is, c.at.ensures) at c.running_command.ensures.first))) ∙ c.requires)

pub returns-clause-stops : goal.returns-clause-stops
returns-clause-stops c = λ s.
    let before : State = record (with_devices s c.args.devices.now) { now = c.args.now; queues = c.args.queues.now } in
    let code : c.if-command.code ≡ (if c.in-Some.command.now.marked then Canceled else TimeOut) = elim c.if-command.branch [
      | then-command w ↦ rw (w.if-command.true) (w.code-is)
      | else-command w ↦ rw (w.if-command.false) (w.code-is)
    ] in
    stops before (record (with_devices before c.forget.new.devices) { queues = c.set_result.new.self }) c.args.service c.in-Some.command.now c.set_result.new.self
    (rw c.at.ensures at (sym c.in-Some.ensures.first)) (rw c.at.ensures at c.in-Some.ensures.valid) c.requires
    (rw (c.new.ensures, c.nothing.ensures, c.ticket-ticket.ensures, code) at c.set_result.ensures)
    (c.in_ok-forget.ensures.ok (record before { queues = c.set_result.new.self }))
