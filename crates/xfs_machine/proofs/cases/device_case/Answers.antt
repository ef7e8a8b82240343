use Rattle.std.proofs.Common.{◌&&◌, not, ap, sym, ◌∙◌}
use Rattle.std.specs.List.{list_any}
use Rattle.xfs_queue.specs.Commands.{is_running}
use Rattle.xfs_traffic.proofs.QueueTests.{any_there}
use Rattle.xfs_machine.proofs.ChosenLaws.{begins_first, goes_on_first, overdue_first, rests, stops_first}
use Rattle.xfs_machine.proofs.cases.device_case.Goals as goal

pub returns-then-is_some : goal.returns-then-is_some
returns-then-is_some c = overdue_first c.args.queue.now c.args.is_cash c.args.now (sym (any_there c.expire.result c.is_some.result _ c.args.queue.now c.expire.ensures.found c.is_some.ensures) ∙ c.if-is_some.true)

pub returns-then-is_stopped : goal.returns-then-is_stopped
returns-then-is_stopped c =
    stops_first c.args.queue.now c.args.is_cash c.args.now (sym (any_there c.expire.result c.is_some.result _ c.args.queue.now c.expire.ensures.found c.is_some.ensures) ∙ c.if-is_some.false)
    (sym c.is_stopped.ensures ∙ c.if-is_stopped.true)

pub returns-then-is_cash-runs : goal.returns-then-is_cash-runs
returns-then-is_cash-runs c =
    goes_on_first c.args.queue.now c.args.is_cash c.args.now (sym (any_there c.expire.result c.is_some.result _ c.args.queue.now c.expire.ensures.found c.is_some.ensures) ∙ c.if-is_some.false)
    (sym c.is_stopped.ensures ∙ c.if-is_stopped.false)
    (ap (λ r. c.args.is_cash && r) (sym (any_there c.running.result c.is_some-runs.result _ c.args.queue.now c.running.ensures.found c.is_some-runs.ensures)) ∙ c.if-is_cash-runs.true)

pub returns-then-waits-runs : goal.returns-then-waits-runs
returns-then-waits-runs c =
    let runs = any_there c.running.result c.is_some-runs.result _ c.args.queue.now c.running.ensures.found c.is_some-runs.ensures in
    let waits = any_there c.next.result c.is_some-waits.result _ c.args.queue.now c.next.ensures.found c.is_some-waits.ensures in
    begins_first c.args.queue.now c.args.is_cash c.args.now (sym (any_there c.expire.result c.is_some.result _ c.args.queue.now c.expire.ensures.found c.is_some.ensures) ∙ c.if-is_some.false)
    (sym c.is_stopped.ensures ∙ c.if-is_stopped.false) (ap (λ r. c.args.is_cash && r) (sym runs) ∙ c.if-is_cash-runs.false)
    (ap (λ w. w && not (list_any (λ a. is_running a.stage) c.args.queue.now)) (sym waits) ∙ ap (λ r. c.is_some-waits.result && not r) (sym runs) ∙ c.if-waits-runs.true)

pub returns : goal.returns
returns c =
    let runs = any_there c.running.result c.is_some-runs.result _ c.args.queue.now c.running.ensures.found c.is_some-runs.ensures in
    let waits = any_there c.next.result c.is_some-waits.result _ c.args.queue.now c.next.ensures.found c.is_some-waits.ensures in
    rests c.args.queue.now c.args.is_cash c.args.now (sym (any_there c.expire.result c.is_some.result _ c.args.queue.now c.expire.ensures.found c.is_some.ensures) ∙ c.if-is_some.false)
    (sym c.is_stopped.ensures ∙ c.if-is_stopped.false) (ap (λ r. c.args.is_cash && r) (sym runs) ∙ c.if-is_cash-runs.false)
    (ap (λ w. w && not (list_any (λ a. is_running a.stage) c.args.queue.now)) (sym waits) ∙ ap (λ r. c.is_some-waits.result && not r) (sym runs) ∙ c.if-waits-runs.false)
