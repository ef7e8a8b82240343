use Rattle.std.proofs.Common.{◌≡◌, [], ◌∷◌, ap}
use Rattle.serde_json.specs.View.{view}
use Rattle.xfs_card.specs.Table.{ask_insert, effect_of}
use Rattle.xfs_card.specs.declared.ask.CardAsk.TheVariants.{Read}
use Rattle.xfs_queue.specs.Commands.{is_waiting}
use Rattle.xfs_model.specs.State.{queue_of}
use Rattle.xfs_traffic.specs.Parts.{at_card}
use Rattle.xfs_traffic.proofs.ChangeLaws.{waits_there}
use Rattle.xfs_machine.proofs.BegunLaws.{card_begun, card_ended, read_effects, read_else}
use Rattle.xfs_machine.proofs.begin.begin_read.Goals as goal

pub returns-in_default-clause-memory : goal.returns-in_default-clause-memory
returns-in_default-clause-memory c = (c.in_default.ensures.memory, ap (λ ks. record c.args.traffic.now { connections = ks }) (c.unsend.ensures c.args.traffic.now.connections c.in_ok-frame.frame c.in_ok-send.ensures.ok))

pub set_result-requires : goal.set_result-requires
set_result-requires c = waits_there (λ b. is_waiting b.stage) c.args.ticket (queue_of c.args.traffic.now.queues c.args.service) c.requires.waiting

pub unreachable-requires : goal.unreachable-requires
unreachable-requires c =
    read_else c.in-Ok.effect (read_effects c.args.tracks c.args.slot.now (effect_of c.in-Ok.effect) c.step.new.state c.in-Ok.ensures.row) c.in_default-effect.not-AskInsert c.in_default-effect.not-Done

pub returns-in-AskInsert-clause-begins : goal.returns-in-AskInsert-clause-begins
returns-in-AskInsert-clause-begins c = λ s a same.
    card_begun (at_card s c.args.slot.now c.args.traffic.now) c.args.service c.args.ticket a (Read c.args.tracks) ask_insert c.step.new.state (c.in_ok-frame.frame ∷ []) c.send.new.self c.start.new.queues same
    (rw c.in-AskInsert.is at c.in-Ok.ensures.row) ((c.in_ok-frame.ensures, tt), c.in_ok-send.ensures.ok, c.start.ensures)

pub returns-in-Done-clause-begins : goal.returns-in-Done-clause-begins
returns-in-Done-clause-begins c = λ s a same.
    let back : c.unsend-in-Done.new.self ≡ c.args.traffic.now.connections = c.unsend-in-Done.ensures c.args.traffic.now.connections c.in_ok-frame.frame c.in_ok-send.ensures.ok in
    rw back (card_ended (at_card s c.args.slot.now c.args.traffic.now) c.args.service c.args.ticket a (Read c.args.tracks) c.in-Done.code (view c.in-Done.payload) c.step.new.state c.set_result.new.self same
    (rw c.in-Done.is at c.in-Ok.ensures.row) (rw c.new.ensures at c.set_result.ensures))
