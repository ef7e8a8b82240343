use Rattle.std.proofs.Common.{◌≡◌, [], ◌∷◌, ap}
use Rattle.serde_json.specs.View.{view}
use Rattle.xfs_base.specs.declared.moment.Service.TheVariants.{Card}
use Rattle.xfs_card.specs.Table.{inserted, nothing, effect_of}
use Rattle.xfs_card.specs.declared.state.CardEvent.TheVariants.{Inserted}
use Rattle.xfs_model.specs.Devices.{card_says, with_slot}
use Rattle.xfs_traffic.specs.Parts.{at_card}
use Rattle.xfs_traffic.proofs.HeardLaws.{heard, heard_nothing, inserted_effects, nothing_else, runs_there, touches_card}
use Rattle.xfs_traffic.proofs.devices.put_card_for.Goals as goal

pub set_result-requires : goal.set_result-requires
set_result-requires c = runs_there c.args.traffic.now.queues.card c.args.ticket c.requires

pub returns-in-Inserted-clause-touches : goal.returns-in-Inserted-clause-touches
returns-in-Inserted-clause-touches c = λ s.
    let before = at_card s c.args.slot.now c.args.traffic.now in
    touches_card before (Inserted c.args.card) (inserted (view c.in-Inserted.payload)) c.step.new.state (at_card s c.step.new.state (record { connections = c.send.new.self; queues = c.set_result.new.self }))
    (rw c.in-Inserted.is at c.in-Ok.ensures.row)
    (heard (with_slot before c.step.new.state) Card c.args.ticket (card_says (inserted (view c.in-Inserted.payload))) (c.in_ok-frame.frame ∷ []) c.send.new.self c.set_result.new.self c.requires
    ((c.in_ok-frame.ensures, tt), c.in_ok-send.ensures.ok, rw c.new-outcome.ensures at c.set_result.ensures))

pub returns-in-Nothing-clause-touches : goal.returns-in-Nothing-clause-touches
returns-in-Nothing-clause-touches c = λ s.
    let before = at_card s c.args.slot.now c.args.traffic.now in
    let back : c.unsend-in-Nothing.new.self ≡ c.args.traffic.now.connections = c.unsend-in-Nothing.ensures c.args.traffic.now.connections c.in_ok-frame.frame c.in_ok-send.ensures.ok in
    touches_card before (Inserted c.args.card) nothing c.step.new.state (at_card s c.step.new.state (record { connections = c.unsend-in-Nothing.new.self; queues = c.args.traffic.now.queues }))
    (rw c.in-Nothing.is at c.in-Ok.ensures.row) (rw back (heard_nothing (with_slot before c.step.new.state) Card (rw c.at.ensures at c.commands-kept.ensures.valid)))

pub returns-in_default-clause-memory : goal.returns-in_default-clause-memory
returns-in_default-clause-memory c = (c.in_default.ensures.memory, ap (λ ks. record c.args.traffic.now { connections = ks }) (c.unsend.ensures c.args.traffic.now.connections c.in_ok-frame.frame c.in_ok-send.ensures.ok))

pub unreachable-requires : goal.unreachable-requires
unreachable-requires c = nothing_else c.in-Ok.effect (inserted_effects c.args.card c.args.slot.now (effect_of c.in-Ok.effect) c.step.new.state c.in-Ok.ensures.row) c.in_default-effect.not-Nothing c.in_default-effect.not-Inserted
