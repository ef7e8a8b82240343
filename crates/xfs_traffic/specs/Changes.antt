-- What a call does to traffic and devices: told of every machine that has them, before and after.
use Rattle.std.specs.Prelude.{◌≡◌, [], Option, Some}
use Rattle.xfs_base.specs.declared.moment.Moment.{Moment}
use Rattle.xfs_base.specs.declared.moment.Service.{Service}
use Rattle.xfs_card.specs.Slot.{Slot}
use Rattle.xfs_card.specs.declared.state.CardEvent.{CardEvent}
use Rattle.xfs_card.specs.declared.state.CardEvent.TheVariants as card_event
use Rattle.xfs_keyboard.specs.Entries.{Entry}
use Rattle.xfs_keyboard.specs.declared.state.KeyEvent.{KeyEvent}
use Rattle.xfs_keyboard.specs.declared.state.KeyEvent.TheVariants as key_event
use Rattle.xfs_model.specs.Cases.{AnswersFirst, IsTooLate, Stops}
use Rattle.xfs_model.specs.Devices.{device_stopped}
use Rattle.xfs_model.specs.State.{Outcome, Queues, State}
use Rattle.xfs_model.specs.Touches.{IsHeard, TouchesCard, TouchesKeys, running_at}
use Rattle.xfs_traffic.specs.Parts.{at_card, at_keys, with_devices, with_traffic}
use Rattle.xfs_traffic.specs.declared.devices.Devices.{Devices}
use Rattle.xfs_traffic.specs.declared.traffic.Traffic.{Traffic}

-- the card reader and its running command take an event
abbrev pub CardTakes : CardEvent → Slot → Slot → Traffic → Traffic → Type 0
CardTakes event slot slot' traffic traffic' = (s : State) → TouchesCard (at_card s slot traffic) event (at_card s slot' traffic')

abbrev pub CardFails : Slot → Slot → Queues → Queues → Type 0
CardFails slot slot' qs qs' = (s : State) → TouchesCard (record s { slot = slot; queues = qs }) card_event.Fault (record s { slot = slot'; queues = qs' })

-- the keyboard and its running command take an event
abbrev pub KeysTake : KeyEvent → Option Entry → Option Entry → Traffic → Traffic → Type 0
KeysTake event keypad keypad' traffic traffic' = (s : State) → TouchesKeys (at_keys s keypad traffic) event (at_keys s keypad' traffic')

abbrev pub KeysFail : Option Entry → Option Entry → Queues → Queues → Type 0
KeysFail keypad keypad' qs qs' = (s : State) → TouchesKeys (record s { keypad = keypad; queues = qs }) key_event.Fault (record s { keypad = keypad'; queues = qs' })

-- the command that runs at a service has this result, if one runs
abbrev pub RunningHas : Service → Outcome → Queues → Queues → Type 0
RunningHas service outcome qs qs' = (s : State) → IsHeard (record s { queues = qs }) service (running_at (record s { queues = qs }) service) (record { events = []; result = Some outcome }) (record s { queues = qs' })

-- the first ready command of a service is answered
abbrev pub FirstIsAnswered : Service → Traffic → Traffic → Type 0
FirstIsAnswered service old new = (s : State) → AnswersFirst (with_traffic s old) service (with_traffic s new)

-- the first waiting command whose time is over has its result
abbrev pub FirstIsTooLate : Moment → Service → Queues → Queues → Type 0
FirstIsTooLate now service qs qs' = (s : State) → IsTooLate (record s { now = now; queues = qs }) service (record s { now = now; queues = qs' })

-- the running command of a device is stopped
abbrev pub DeviceStops : Moment → Service → Devices → Devices → Queues → Queues → Type 0
DeviceStops now service old new qs qs' = (s : State) → Stops (record (with_devices s old) { now = now; queues = qs }) service (record (with_devices s new) { now = now; queues = qs' })

-- the device of the stopped command waits for nothing more
abbrev pub WaitEnds : Service → Devices → Devices → Type 0
WaitEnds service old new = (s : State) → with_devices s new ≡ device_stopped (with_devices s old) service
