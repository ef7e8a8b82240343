use Rattle.std.proofs.Common.{Some, [], refl, sym, ◌∙◌}
use Rattle.xfs_model.specs.State.{queue_of}
use Rattle.xfs_traffic.proofs.ChangeLaws.{none_found}
use Rattle.xfs_traffic.proofs.HeardLaws.{heard_result, runs_there, unheard}
use Rattle.xfs_traffic.proofs.devices.end_running.Goals as goal

pub set_result-requires : goal.set_result-requires
set_result-requires c = runs_there (queue_of c.args.queues.now c.args.service) c.in-Some.ticket (sym c.in-Some.is ∙ (rw c.at.ensures at c.running.ensures.found))

pub returns-in-Some : goal.returns-in-Some
returns-in-Some c = λ s.
    heard_result (record s { queues = c.args.queues.now }) c.args.service c.in-Some.ticket c.args.outcome c.set_result.new.self (sym c.in-Some.is ∙ (rw c.at.ensures at c.running.ensures.found)) c.set_result.ensures

pub returns-in-None : goal.returns-in-None
returns-in-None c = λ s.
    unheard (record s { queues = c.args.queues.now }) (record s { queues = c.args.queues.now }) c.args.service (record { events = []; result = Some c.args.outcome })
    (none_found _ (sym c.in-None.is ∙ (rw c.at.ensures at c.running.ensures.found))) refl
