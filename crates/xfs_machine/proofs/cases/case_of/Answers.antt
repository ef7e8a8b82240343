use Rattle.std.proofs.Common.{◌≡◌, [], length, sym, ◌∙◌}
use Rattle.std.proofs.lemmas.Bool.{eqb-true}
use Rattle.std.proofs.lemmas.List.{nil_from_length}
use Rattle.std.specs.List.{list_any}
use Rattle.xfs_machine.specs.Parts.{at_dispenser}
use Rattle.xfs_queue.specs.Commands.{is_ready, waits_on}
use Rattle.xfs_queue.specs.declared.command.Line.TheVariants.{Nonce}
use Rattle.xfs_model.specs.State.{queue_of}
use Rattle.xfs_traffic.proofs.QueueTests.{any_there}
use Rattle.xfs_machine.proofs.ChosenLaws.{answers_first, device_first, expires_first, nonce_first, rests_empty}
use Rattle.xfs_machine.proofs.cases.case_of.Goals as goal

pub returns-then-is_cash-over-clause-case : goal.returns-then-is_cash-over-clause-case
returns-then-is_cash-over-clause-case g c = λ s.
    expires_first (at_dispenser g.D.Disk s c.args.now c.args.dispenser.now c.args.queues.now) c.args.service
    (rw (c.is_service-is_cash.ensures, c.is_ordered.ensures.open) at c.if-is_cash-is_ordered.false) (rw (c.is_service-is_cash.ensures, c.is_life_over-over.ensures s) at c.if-is_cash-over.true)

pub returns-then-is_empty-clause-case : goal.returns-then-is_empty-clause-case
returns-then-is_empty-clause-case g c = λ s.
    let none : c.commands.result.now ≡ [] = nil_from_length c.commands.result.now (eqb-true (length c.commands.result.now) 0 (sym c.is_empty.ensures ∙ c.if-is_empty.true)) in
    rests_empty (at_dispenser g.D.Disk s c.args.now c.args.dispenser.now c.args.queues.now) c.args.service
    (rw (c.is_service-is_cash.ensures, c.is_ordered.ensures.open) at c.if-is_cash-is_ordered.false) (rw (c.is_service-is_cash.ensures, c.is_life_over-over.ensures s) at c.if-is_cash-over.false)
    (sym c.at-queue.ensures ∙ sym c.commands.ensures.now ∙ none)

pub returns-then-is_some-clause-case : goal.returns-then-is_some-clause-case
returns-then-is_some-clause-case g c = λ s.
    let is : c.is_some.result ≡ list_any (λ a. is_ready a.stage) (queue_of c.args.queues.now c.args.service) = any_there c.ready.result c.is_some.result (λ a. is_ready a.stage) (queue_of c.args.queues.now c.args.service) (rw c.at-queue.ensures at c.ready.ensures.found) c.is_some.ensures in
    answers_first (at_dispenser g.D.Disk s c.args.now c.args.dispenser.now c.args.queues.now) c.args.service
    (rw (c.is_service-is_cash.ensures, c.is_ordered.ensures.open) at c.if-is_cash-is_ordered.false) (rw (c.is_service-is_cash.ensures, c.is_life_over-over.ensures s) at c.if-is_cash-over.false)
    (sym is ∙ c.if-is_some.true)

pub returns-then-is_cash-asks-clause-case : goal.returns-then-is_cash-asks-clause-case
returns-then-is_cash-asks-clause-case g c = λ s.
    let is : c.is_some.result ≡ list_any (λ a. is_ready a.stage) (queue_of c.args.queues.now c.args.service) = any_there c.ready.result c.is_some.result (λ a. is_ready a.stage) (queue_of c.args.queues.now c.args.service) (rw c.at-queue.ensures at c.ready.ensures.found) c.is_some.ensures in
    let asks : c.is_some-asks.result ≡ list_any (waits_on Nonce) (queue_of c.args.queues.now c.args.service) = any_there c.next.result c.is_some-asks.result (waits_on Nonce) (queue_of c.args.queues.now c.args.service) (rw c.at-queue.ensures at c.next.ensures.found) c.is_some-asks.ensures in
    nonce_first (at_dispenser g.D.Disk s c.args.now c.args.dispenser.now c.args.queues.now) c.args.service
    (rw (c.is_service-is_cash.ensures, c.is_ordered.ensures.open) at c.if-is_cash-is_ordered.false) (rw (c.is_service-is_cash.ensures, c.is_life_over-over.ensures s) at c.if-is_cash-over.false)
    (sym is ∙ c.if-is_some.false) (rw (c.is_service-is_cash.ensures, asks) at c.if-is_cash-asks.true)

pub returns-clause-case : goal.returns-clause-case
returns-clause-case g c = λ s.
    let is : c.is_some.result ≡ list_any (λ a. is_ready a.stage) (queue_of c.args.queues.now c.args.service) = any_there c.ready.result c.is_some.result (λ a. is_ready a.stage) (queue_of c.args.queues.now c.args.service) (rw c.at-queue.ensures at c.ready.ensures.found) c.is_some.ensures in
    let asks : c.is_some-asks.result ≡ list_any (waits_on Nonce) (queue_of c.args.queues.now c.args.service) = any_there c.next.result c.is_some-asks.result (waits_on Nonce) (queue_of c.args.queues.now c.args.service) (rw c.at-queue.ensures at c.next.ensures.found) c.is_some-asks.ensures in
    (rw (c.at-queue.ensures, c.is_service-is_cash.ensures) at c.device_case.ensures)
    ∙ device_first (at_dispenser g.D.Disk s c.args.now c.args.dispenser.now c.args.queues.now) c.args.service
    (rw (c.is_service-is_cash.ensures, c.is_ordered.ensures.open) at c.if-is_cash-is_ordered.false) (rw (c.is_service-is_cash.ensures, c.is_life_over-over.ensures s) at c.if-is_cash-over.false)
    (sym is ∙ c.if-is_some.false) (rw (c.is_service-is_cash.ensures, asks) at c.if-is_cash-asks.false)
