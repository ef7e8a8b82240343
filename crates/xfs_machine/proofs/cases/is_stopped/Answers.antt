use Rattle.std.proofs.Common.{◌||◌, sym, ◌∙◌}
use Rattle.xfs_queue.specs.Commands.{is_due}
use Rattle.xfs_traffic.proofs.ChangeLaws.{none_found}
use Rattle.xfs_traffic.proofs.QueueTests.{none_runs, stopped_one}
use Rattle.xfs_machine.proofs.cases.is_stopped.Goals as goal

pub returns-in-Some : goal.returns-in-Some
returns-in-Some c = stopped_one c.args.queue.now c.in-Some.ticket c.args.now c.is_marked.result c.due.result (sym c.in-Some.is ∙ c.running.ensures.found) c.commands-kept.ensures.valid c.is_marked.ensures c.due.ensures

pub returns-in-None : goal.returns-in-None
returns-in-None c = sym (none_runs (λ b. b.marked || is_due c.args.now b) c.args.queue.now (none_found _ (sym c.in-None.is ∙ c.running.ensures.found)))
