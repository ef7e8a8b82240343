use Rattle.std.proofs.Common.{◌≡◌, [], ◌∷◌, ap}
use Rattle.serde_json.specs.View.{view}
use Rattle.xfs_base.specs.declared.moment.Service.TheVariants.{Keys}
use Rattle.xfs_keyboard.specs.Keyboard.{ended, failed, nothing, told}
use Rattle.xfs_keyboard.specs.declared.state.KeyEvent.TheVariants.{Key}
use Rattle.xfs_model.specs.Devices.{key_pressed, keyboard_says, with_keypad}
use Rattle.xfs_traffic.specs.Parts.{at_keys}
use Rattle.xfs_traffic.proofs.HeardLaws.{ended_key, heard, heard_nothing, heard_on, key_effects, not_failed, runs_there, told_key, touches_keys}
use Rattle.xfs_traffic.proofs.devices.press_key_for.Goals as goal

pub returns-in_default-clause-memory : goal.returns-in_default-clause-memory
returns-in_default-clause-memory c = (c.in_default.ensures.memory, ap (λ ks. record c.args.traffic.now { connections = ks }) (c.unsend.ensures c.args.traffic.now.connections c.in_ok-frame.frame c.in_ok-send.ensures.ok))

pub set_result-requires : goal.set_result-requires
set_result-requires c = runs_there c.args.traffic.now.queues.keys c.args.ticket c.requires

pub unreachable-requires : goal.unreachable-requires
unreachable-requires c = not_failed c.args.key (key_effects c.args.keypad.now c.args.key failed c.step.new.state (rw c.in-Failed.is at c.in-Ok.ensures.row))

pub returns-in-Told-clause-touches : goal.returns-in-Told-clause-touches
returns-in-Told-clause-touches c = λ s.
    let before = at_keys s c.args.keypad.now c.args.traffic.now in
    let row = rw c.in-Told.is at c.in-Ok.ensures.row in
    let same = told_key c.args.key c.in-Told.field-0 (key_effects c.args.keypad.now c.args.key (told c.in-Told.field-0) c.step.new.state row) in
    touches_keys before (Key c.args.key) (told c.args.key) c.step.new.state (at_keys s c.step.new.state (record { connections = c.send.new.self; queues = c.args.traffic.now.queues })) (rw same at row)
    (heard_on (with_keypad before c.step.new.state) Keys c.args.ticket (key_pressed c.args.key ∷ []) (c.in_ok-frame.frame ∷ []) c.send.new.self c.requires (rw c.at.ensures at c.commands-kept.ensures.valid)
    (c.in_ok-frame.ensures, tt) c.in_ok-send.ensures.ok)

pub returns-in-Ended-clause-touches : goal.returns-in-Ended-clause-touches
returns-in-Ended-clause-touches c = λ s.
    let before = at_keys s c.args.keypad.now c.args.traffic.now in
    let row = rw c.in-Ended.is at c.in-Ok.ensures.row in
    let same = ended_key c.args.key c.in-Ended.field-0 (view c.in-Ended.payload) (key_effects c.args.keypad.now c.args.key (ended c.in-Ended.field-0 (view c.in-Ended.payload)) c.step.new.state row) in
    touches_keys before (Key c.args.key) (ended c.args.key (view c.in-Ended.payload)) c.step.new.state (at_keys s c.step.new.state (record { connections = c.send.new.self; queues = c.set_result.new.self })) (rw same at row)
    (heard (with_keypad before c.step.new.state) Keys c.args.ticket (keyboard_says (ended c.args.key (view c.in-Ended.payload))) (c.in_ok-frame.frame ∷ []) c.send.new.self c.set_result.new.self c.requires
    ((c.in_ok-frame.ensures, tt), c.in_ok-send.ensures.ok, rw c.new-outcome.ensures at c.set_result.ensures))

pub returns-in-Nothing-clause-touches : goal.returns-in-Nothing-clause-touches
returns-in-Nothing-clause-touches c = λ s.
    let before = at_keys s c.args.keypad.now c.args.traffic.now in
    let back : c.unsend-in-Nothing.new.self ≡ c.args.traffic.now.connections = c.unsend-in-Nothing.ensures c.args.traffic.now.connections c.in_ok-frame.frame c.in_ok-send.ensures.ok in
    touches_keys before (Key c.args.key) nothing c.step.new.state (at_keys s c.step.new.state (record { connections = c.unsend-in-Nothing.new.self; queues = c.args.traffic.now.queues }))
    (rw c.in-Nothing.is at c.in-Ok.ensures.row) (rw back (heard_nothing (with_keypad before c.step.new.state) Keys (rw c.at.ensures at c.commands-kept.ensures.valid)))
