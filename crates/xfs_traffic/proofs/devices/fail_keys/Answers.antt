use Rattle.xfs_base.specs.declared.moment.Service.TheVariants.{Keys}
use Rattle.xfs_keyboard.specs.Keyboard.{failed, nothing}
use Rattle.xfs_keyboard.specs.declared.state.KeyEvent.TheVariants.{Fault}
use Rattle.xfs_traffic.proofs.HeardLaws.{heard_nothing, touches_keys}
use Rattle.xfs_traffic.proofs.devices.fail_keys.Goals as goal

pub returns-in-Failed-clause-touches : goal.returns-in-Failed-clause-touches
returns-in-Failed-clause-touches c = λ s.
    touches_keys (record s { keypad = c.args.keypad.now; queues = c.args.queues.now }) Fault failed c.step.new.state (record s { keypad = c.step.new.state; queues = c.end_running.new.queues })
    (rw c.in-Failed.is at c.in_ok-step.ensures.row) (rw (c.new-outcome.ensures, c.nothing.ensures) at (c.end_running.ensures (record s { keypad = c.step.new.state })))

pub returns-in-Nothing-clause-touches : goal.returns-in-Nothing-clause-touches
returns-in-Nothing-clause-touches c = λ s.
    let after = record s { keypad = c.step.new.state; queues = c.args.queues.now } in
    touches_keys (record s { keypad = c.args.keypad.now; queues = c.args.queues.now }) Fault nothing c.step.new.state after (rw c.in-Nothing.is at c.in_ok-step.ensures.row)
    (heard_nothing after Keys (rw c.at.ensures at c.commands-kept.ensures.valid))
