-- What a step of the card reader or of the keyboard says to its running command: events, and perhaps its result.
use Rattle.std.specs.Prelude.{◌≡◌, ℕ, List, [], ◌∷◌, codes, Option, None, Some}
use Rattle.serde_json.specs.Data.{Data, string}
use Rattle.xfs_base.specs.declared.moment.Service.{Service}
use Rattle.xfs_base.specs.declared.moment.Service.TheVariants.{Publisher, Card, Keys, Cash}
use Rattle.xfs_card.specs.Slot.{Slot}
use Rattle.xfs_card.specs.Table as card_reader
use Rattle.xfs_card.specs.declared.state.CardEvent.TheVariants as card_event
use Rattle.xfs_common.specs.Payloads.{nothing, only}
use Rattle.xfs_envelope.specs.declared.code.Code.TheVariants.{HardwareError}
use Rattle.xfs_keyboard.specs.Entries.{Entry}
use Rattle.xfs_keyboard.specs.Keyboard as keyboard
use Rattle.xfs_keyboard.specs.declared.state.KeyEvent.TheVariants as key_event
use Rattle.xfs_mech.specs.Keys.{name_of}
use Rattle.xfs_mech.specs.declared.key.KeyName.{KeyName}
use Rattle.xfs_queue.specs.declared.command.Command.{Command}
use Rattle.xfs_model.specs.Connections.{sent, with_queue_at}
use Rattle.xfs_model.specs.Frames.{Notice, AreEvents}
use Rattle.xfs_model.specs.Results.{changed, outcome, plain, running, success, with_result}
use Rattle.xfs_model.specs.State.{Job, Outcome, State, queue_at}

pub record Saying : Type 0 where
  pub events : List Notice
  pub result : Option Outcome

abbrev pub notice : List ℕ → Data → Notice
notice name payload = record { name = name; payload = payload }

abbrev pub key_pressed : KeyName → Notice
key_pressed key = notice (codes "Keyboard.KeyEvent") (only (codes "digit") (string (name_of key)))

abbrev pub card_says : card_reader.Effect → Saying
card_says card_reader.nothing = record { events = []; result = None }
card_says card_reader.ask_insert = record { events = notice (codes "CardReader.InsertCardEvent") nothing ∷ []; result = None }
card_says (card_reader.inserted payload) = record { events = notice (codes "CardReader.MediaInsertedEvent") nothing ∷ []; result = Some (success payload) }
card_says (card_reader.done code payload) = record { events = []; result = Some (outcome code payload) }
card_says card_reader.removed = record { events = []; result = None }

abbrev pub keyboard_says : keyboard.Effect → Saying
keyboard_says keyboard.nothing = record { events = []; result = None }
keyboard_says (keyboard.told key) = record { events = key_pressed key ∷ []; result = None }
keyboard_says (keyboard.ended key payload) = record { events = key_pressed key ∷ []; result = Some (success payload) }
keyboard_says keyboard.failed = record { events = []; result = Some (plain HardwareError) }

-- the command runs on, or has its result
abbrev pub with_saying : Option Outcome → Command Job → Command Job
with_saying None a = running a
with_saying (Some result) a = with_result result a

-- the command hears its events, and runs on or has its result
pub record Hears (s : State) (service : Service) (a : Command Job) (saying : Saying) (new : State) : Type 0 where
  pub events : List (List ℕ)
  pub are_events : AreEvents a.id saying.events events
  pub is : new ≡ with_queue_at (sent s service a.client events) service (changed (with_saying saying.result) a (queue_at s service))

-- the machine with what the reader, or the keyboard, has come to
abbrev pub with_slot : State → Slot → State
with_slot s slot = record s { slot = slot }

abbrev pub with_keypad : State → Option Entry → State
with_keypad s keypad = record s { keypad = keypad }

-- the running command of a service ends without a result of its own: its device is told
abbrev pub device_stopped : State → Service → State
device_stopped s Publisher = s
device_stopped s Card = with_slot s (card_reader.row_of s.slot card_event.Stop).next
device_stopped s Keys = with_keypad s (keyboard.row_of s.keypad key_event.Stop).next
device_stopped s Cash = s
