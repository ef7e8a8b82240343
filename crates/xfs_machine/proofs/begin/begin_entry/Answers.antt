use Rattle.xfs_keyboard.specs.Keyboard.{effect_of}
use Rattle.xfs_machine.proofs.BegunLaws.{entry_begun}
use Rattle.xfs_machine.proofs.begin.begin_entry.Goals as goal

pub returns-clause-begins : goal.returns-clause-begins
returns-clause-begins c = λ s a same.
    entry_begun (record s { keypad = c.args.keypad.now; queues = c.args.queues.now }) c.args.service c.args.ticket a c.args.ask (effect_of c.in_ok-step.field-0) c.step.new.state c.start.new.queues same c.in_ok-step.ensures.row c.start.ensures
