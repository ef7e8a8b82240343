-- What a call does that has some parts of a machine: told of every machine that has them, before and after.
use Rattle.std.specs.Prelude.{◌≡◌, ◌≢◌, List, Option, Result}
use Rattle.xfs_base.specs.declared.moment.Moment.{Moment}
use Rattle.xfs_base.specs.declared.moment.Service.{Service}
use Rattle.xfs_card.specs.Slot.{Slot}
use Rattle.xfs_card.specs.declared.ask.CardAsk.{CardAsk}
use Rattle.xfs_disk.specs.declared.disk.Disk.{Ghosts}
use Rattle.xfs_dispenser.specs.Seen.{Seen, seen}
use Rattle.xfs_envelope.specs.Commands as envelope
use Rattle.xfs_envelope.specs.declared.command.Refuse.{Refuse}
use Rattle.xfs_guard.specs.CrashOutcomes.{MayTake}
use Rattle.xfs_guard.specs.Keeps.{Keeps}
use Rattle.xfs_guard.specs.View.{GuardView, View}
use Rattle.xfs_keyboard.specs.Entries.{Entry}
use Rattle.xfs_keyboard.specs.declared.ask.EntryAsk.{EntryAsk}
use Rattle.xfs_mech.specs.declared.touch.Touch.{Touch}
use Rattle.xfs_mech.specs.declared.touch.Touch.TheVariants.{NotesTaken}
use Rattle.xfs_queue.specs.Commands.{ticket_of}
use Rattle.xfs_queue.specs.declared.command.Command.{Command}
use Rattle.xfs_queue.specs.declared.command.Ticket.{Ticket}
use Rattle.xfs_model.specs.Cases.{BeginsAs, BeginsFirst, Does, EndsLife, TakesNonce, WorksOnPlan}
use Rattle.xfs_model.specs.Events.{Answer, touched}
use Rattle.xfs_model.specs.Guards.{NonceCommand}
use Rattle.xfs_model.specs.Posts.{DoesAtOnce, TakesText}
use Rattle.xfs_model.specs.State.{Ask, Connection, Job, Outcome, Queues, State, card, clear, entry}
use Rattle.xfs_model.specs.Touches.{TakesNotes, Touches}
use Rattle.xfs_traffic.specs.Parts.{at_card, with_traffic}
use Rattle.xfs_traffic.specs.Senders.{IsSeen}
use Rattle.xfs_traffic.specs.declared.accepting.Sender.{Sender}
use Rattle.xfs_traffic.specs.declared.devices.Devices.{Devices}
use Rattle.xfs_traffic.specs.declared.traffic.Traffic.{Traffic}
use Rattle.xfs_machine.specs.Chosen.{case_seen}
use Rattle.xfs_machine.specs.Parts.{at_cash, at_devices, at_dispenser, at_work}
use Rattle.xfs_machine.specs.declared.answer.Touched.{Touched}
use Rattle.xfs_machine.specs.declared.answer.Touched.TheVariants.{Closed}
use Rattle.xfs_machine.specs.declared.cases.Case.{Case as Chosen}
use Rattle.xfs_machine.specs.declared.dispenser.Dispenser.{Dispenser}

-- a text of the sender is taken at this moment, by a machine with this guard
abbrev pub TextIsTaken : Moment → Sender → View → Result envelope.Command Refuse → Traffic → Traffic → Type 0
TextIsTaken now sender guard said old new = (s : State) (k : Connection) → IsSeen now sender s k → s.seen.guard ≡ guard → TakesText (with_traffic s old) k said (with_traffic s new)

-- a command of the sender is done at once, by a machine with this guard
abbrev pub IsDoneAtOnce : Sender → View → envelope.Command → Traffic → Traffic → Type 0
IsDoneAtOnce sender guard c old new = (s : State) (k : Connection) → k.client ≡ sender.client → k.service ≡ sender.service → s.seen.guard ≡ guard → DoesAtOnce (with_traffic s old) k c (with_traffic s new)

-- a Cancel of the sender is done, whatever the guard
abbrev pub CancelIsDone : Sender → envelope.Command → Traffic → Traffic → Type 0
CancelIsDone sender c old new = (guard : View) → IsDoneAtOnce sender guard c old new

-- an event of the card slot or of the key pad
abbrev pub DevicesAreTouched : Touch → Devices → Devices → Traffic → Traffic → Type 0
DevicesAreTouched touch old new traffic traffic' = (s : State) → Touches (at_devices s old traffic) touch touched (at_devices s new traffic')

-- where notes are taken through an open shutter, the motion that takes them is all that the mechanism's list may gain
abbrev pub KeepsTouched : {D : Type 0} → Ghosts D → Touch → Touched → GuardView D → GuardView D → Type 0
KeepsTouched g touch answer old new = touch ≡ NotesTaken → answer ≢ Closed → Keeps g (MayTake old.state) old new

-- the mechanism tells the notes that were taken
abbrev pub NotesAreTaken : Seen → Seen → Answer → Type 0
NotesAreTaken seen seen' answer = (s : State) → TakesNotes (record s { seen = seen }) answer (record s { seen = seen' })

-- a case of the work is done at this moment
abbrev pub CaseIsDone : {M D : Type 0} → Ghosts D → Chosen → Service → Moment → Dispenser M D → Dispenser M D → Devices → Devices → Traffic → Traffic → Type 0
CaseIsDone g case service now old new devices devices' traffic traffic' = (s : State) → Does (case_seen case) (at_work g s now old devices traffic) service (at_work g s now new devices' traffic')

-- a dispenser as before, but that its journal may have been read
abbrev pub IsOnlyRead : {M D : Type 0} → Dispenser M D → Dispenser M D → Type 0
IsOnlyRead old new = new ≡ record old { guard = record old.guard { disk = new.guard.disk } }

-- the first command that waits on the device line of a service begins
abbrev pub FirstBegins : {M D : Type 0} → Ghosts D → Service → Dispenser M D → Dispenser M D → Devices → Devices → Traffic → Traffic → Type 0
FirstBegins g service old new devices devices' traffic traffic' = (s : State) → BeginsFirst (at_work g s s.now old devices traffic) service (at_work g s s.now new devices' traffic')

-- the command of this ticket begins at the card reader
abbrev pub CardBegins : CardAsk → Service → Ticket → Slot → Slot → Traffic → Traffic → Type 0
CardBegins ask service ticket slot slot' traffic traffic' = (s : State) (a : Command Job) → ticket ≡ ticket_of a → BeginsAs (card ask) (at_card s slot traffic) service a (at_card s slot' traffic')

-- the command of this ticket begins at the keyboard
abbrev pub EntryBegins : EntryAsk → Service → Ticket → Option Entry → Option Entry → Queues → Queues → Type 0
EntryBegins ask service ticket keypad keypad' qs qs' = (s : State) (a : Command Job) → ticket ≡ ticket_of a → BeginsAs (entry ask) (record s { keypad = keypad; queues = qs }) service a (record s { keypad = keypad'; queues = qs' })

-- the life of the live nonce ends
abbrev pub LifeEnds : Seen → Seen → List Connection → List Connection → Type 0
LifeEnds seen seen' ks ks' = (s : State) → EndsLife (record s { seen = seen; connections = ks }) (record s { seen = seen'; connections = ks' })

-- the first command on the nonce line is done
abbrev pub FirstOfNonces : {M D : Type 0} → Ghosts D → Moment → Dispenser M D → Dispenser M D → Queues → Queues → Type 0
FirstOfNonces g now old new qs qs' = (s : State) → TakesNonce (at_dispenser g s now old qs) (at_dispenser g s now new qs')

-- what becomes of a command on the nonce line: its result, and the moment at which the live nonce was issued then
abbrev pub NonceDone : Ask → Moment → Seen → Seen → Moment → Moment → Outcome → Type 0
NonceDone ask now seen seen' issued issued' outcome = (s : State) → NonceCommand (record s { seen = seen; issued = issued; now = now }) ask outcome seen' issued'

-- what becomes of a command that ends the live nonce: its result
abbrev pub NonceCleared : Seen → Seen → Outcome → Type 0
NonceCleared seen seen' outcome = (s : State) → NonceCommand (record s { seen = seen }) clear outcome seen' s.issued

-- a step of the running plan
abbrev pub PlanGoesOn : Seen → Seen → Queues → Queues → Type 0
PlanGoesOn seen seen' qs qs' = (s : State) → WorksOnPlan (at_cash s seen qs) (at_cash s seen' qs')
