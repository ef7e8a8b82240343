use Rattle.std.proofs.Common.{ap, sym, ◌∙◌}
use Rattle.xfs_base.specs.declared.moment.Service.TheVariants.{Card}
use Rattle.xfs_card.specs.Table.{nothing, removed, effect_of}
use Rattle.xfs_card.specs.declared.state.CardEvent.TheVariants.{Removed}
use Rattle.xfs_model.specs.Devices.{with_slot}
use Rattle.xfs_traffic.specs.Parts.{at_card}
use Rattle.xfs_traffic.proofs.HeardLaws.{heard_nothing, removed_exit, removed_other, touches_card}
use Rattle.xfs_traffic.proofs.devices.take_card.Goals as goal

pub returns-then-not-at_exit-clause-touches : goal.returns-then-not-at_exit-clause-touches
returns-then-not-at_exit-clause-touches c = λ s.
    let before = at_card s c.args.slot.now c.args.traffic.now in
    let none = removed_other c.args.slot.now (effect_of c.in_ok-step.field-0) c.step.new.state c.in_ok-step.ensures.row (sym c.at_exit.ensures ∙ c.if-not-at_exit.true) in
    touches_card before Removed nothing c.step.new.state (at_card s c.step.new.state c.args.traffic.now) (rw none at c.in_ok-step.ensures.row)
    (heard_nothing (with_slot before c.step.new.state) Card (rw c.at.ensures at c.commands-kept.ensures.valid))

pub returns-in-Ok-clause-touches : goal.returns-in-Ok-clause-touches
returns-in-Ok-clause-touches c = λ s.
    let before = at_card s c.args.slot.now c.args.traffic.now in
    let gone = removed_exit c.args.slot.now (effect_of c.in-Ok.field-0) c.step-2.new.state c.in-Ok.ensures.row (sym c.at_exit.ensures ∙ c.if-not-at_exit.false) in
    touches_card before Removed removed c.step-2.new.state (at_card s c.step-2.new.state (record { connections = c.announce.new.self; queues = c.args.traffic.now.queues })) (rw gone at c.in-Ok.ensures.row)
    (c.in_ok-frame.frame, c.in_ok-frame.ensures, ap (λ ks. at_card s c.step-2.new.state (record { connections = ks; queues = c.args.traffic.now.queues })) (rw c.list.ensures at c.in_ok-announce.ensures.ok))

pub returns-clause-memory : goal.returns-clause-memory
returns-clause-memory c = (c.in-Err.ensures.memory, ap (λ ks. record c.args.traffic.now { connections = ks }) (c.take_back.ensures c.args.traffic.now.connections c.in_ok-frame.frame (rw c.list.ensures at c.in_ok-announce.ensures.ok)))
