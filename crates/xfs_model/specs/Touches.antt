-- What a touch of the world does.
use Rattle.std.specs.Prelude.{◌≡◌, ℕ, List, true, false, find, Option, None, Some}
use Rattle.xfs_base.specs.declared.counts.Counts.{Counts}
use Rattle.xfs_base.specs.declared.moment.Service.TheVariants.{Card, Keys}
use Rattle.xfs_card.specs.Table as card_reader
use Rattle.xfs_card.specs.declared.state.CardEvent.{CardEvent}
use Rattle.xfs_card.specs.declared.state.CardEvent.TheVariants as card_event
use Rattle.xfs_dispenser.specs.Seen.{Seen}
use Rattle.xfs_keyboard.specs.Keyboard as keyboard
use Rattle.xfs_keyboard.specs.declared.state.KeyEvent.{KeyEvent}
use Rattle.xfs_keyboard.specs.declared.state.KeyEvent.TheVariants as key_event
use Rattle.xfs_mech.specs.declared.touch.Touch.{Touch}
use Rattle.xfs_mech.specs.declared.touch.Touch.TheVariants.{CardIn, CardTaken, CardFault, Key, KeyFault, NotesTaken}
use Rattle.xfs_queue.specs.declared.command.Command.{Command}
use Rattle.xfs_queue.specs.Commands.{is_running}
use Rattle.xfs_model.specs.Connections.{announced}
use Rattle.xfs_model.specs.Devices.{Hears, Saying, card_says, keyboard_says, with_keypad, with_slot}
use Rattle.xfs_model.specs.Events.{Answer, taken, fault, closed, touched}
use Rattle.xfs_model.specs.Frames.{IsRemoval}
use Rattle.xfs_model.specs.Guards.{CustomerTakes, is_shutter_closed}
use Rattle.xfs_model.specs.State.{Job, State, queue_at}
use Rattle.xfs_base.specs.declared.moment.Service.{Service}

-- the command that runs at a service
abbrev pub running_at : State → Service → Option (Command Job)
running_at s service = find (λ a. is_running a.stage) (queue_at s service)

-- the running command, if there is one, hears what its device says
abbrev pub IsHeard : State → Service → Option (Command Job) → Saying → State → Type 0
IsHeard s service None saying new = new ≡ s
IsHeard s service (Some a) saying new = Hears s service a saying new

-- the card reader: a card that was removed is announced to every connection; all else is heard by the running command
abbrev pub CardSays : State → card_reader.Effect → State → Type 0
CardSays s card_reader.removed new = (frame : List ℕ) × IsRemoval frame × (new ≡ announced s Card (Some frame))
CardSays s effect new = IsHeard s Card (running_at s Card) (card_says effect) new

abbrev pub TouchesCard : State → CardEvent → State → Type 0
TouchesCard s event new = let row = card_reader.row_of s.slot event in CardSays (with_slot s row.next) row.effect new

abbrev pub TouchesKeys : State → KeyEvent → State → Type 0
TouchesKeys s event new = let row = keyboard.row_of s.keypad event in IsHeard (with_keypad s row.next) Keys (running_at s Keys) (keyboard_says row.effect) new

-- the customer takes notes, where the shutter is open
pub data TakesNotes (s : State) : Answer → State → Type 0 where
  shut : is_shutter_closed s.seen ≡ true → TakesNotes s closed s
  took : (moved : Counts) (next : Seen) → is_shutter_closed s.seen ≡ false → CustomerTakes s.seen moved false next → TakesNotes s (taken moved) (record s { seen = next })
  failed : (moved : Counts) (next : Seen) → is_shutter_closed s.seen ≡ false → CustomerTakes s.seen moved true next → TakesNotes s fault (record s { seen = next })

abbrev pub Touches : State → Touch → Answer → State → Type 0
Touches s (CardIn tracks) answer new = (answer ≡ touched) × TouchesCard s (card_event.Inserted tracks) new
Touches s CardTaken answer new = (answer ≡ touched) × TouchesCard s card_event.Removed new
Touches s CardFault answer new = (answer ≡ touched) × TouchesCard s card_event.Fault new
Touches s (Key key) answer new = (answer ≡ touched) × TouchesKeys s (key_event.Key key) new
Touches s KeyFault answer new = (answer ≡ touched) × TouchesKeys s key_event.Fault new
Touches s NotesTaken answer new = TakesNotes s answer new
