-- How a command of the card reader or the keyboard begins, by what was sent and by what was changed.
use Rattle.std.proofs.Common.{◌≡◌, ◌≢◌, ◌⊎◌, ℕ, Bool, List, [], Option, Some, inl, inr, refl, sym, subst, ap}
use Rattle.xfs_base.specs.declared.moment.Service.{Service}
use Rattle.serde_json.specs.Data.{Data}
use Rattle.serde_json.specs.View.{view}
use Rattle.serde_json.specs.declared.value.Value.{Value}
use Rattle.xfs_card.specs.declared.ask.CardAsk.{CardAsk}
use Rattle.xfs_card.specs.declared.state.CardEffect.{CardEffect}
use Rattle.xfs_card.specs.declared.state.CardEffect.TheVariants as reader
use Rattle.xfs_common.specs.Payloads.{nothing as empty_payload}
use Rattle.xfs_envelope.specs.declared.code.Code.{Code}
use Rattle.xfs_envelope.specs.declared.code.Code.TheVariants.{Success, SequenceError}
use Rattle.xfs_keyboard.specs.declared.ask.EntryAsk.{EntryAsk}
use Rattle.xfs_model.specs.Cases.{BeginsAs}
use Rattle.xfs_card.specs.Slot.{Slot, empty, awaited, inside, at_exit}
use Rattle.xfs_card.specs.Tracks.{tracks_payload}
use Rattle.xfs_card.specs.Table as card_reader
use Rattle.xfs_card.specs.declared.state.CardEvent.{CardEvent}
use Rattle.xfs_keyboard.specs.Entries.{Entry}
use Rattle.xfs_keyboard.specs.Keyboard as keyboard
use Rattle.xfs_keyboard.specs.declared.state.KeyEvent.{KeyEvent}
use Rattle.xfs_queue.specs.declared.command.Command.{Command}
use Rattle.xfs_queue.specs.declared.command.Ticket.{Ticket}
use Rattle.xfs_queue.specs.Commands.{ticket_of}
use Rattle.xfs_model.specs.Devices.{Hears, card_says, with_keypad, with_slot}
use Rattle.xfs_model.specs.Results.{outcome, running, with_result}
use Rattle.xfs_model.specs.State.{card as card_ask, entry as entry_ask, Connection, Job, Queues, State, queue_at, with_queue}
use Rattle.xfs_traffic.specs.Jobs.{changed_at}
use Rattle.xfs_traffic.proofs.HeardLaws.{Hearing, hears, silent, unsent}

abbrev effect_of : card_reader.Row → card_reader.Effect
effect_of r = r.effect

abbrev key_next_of : keyboard.Row → Option Entry
key_next_of r = r.next

-- a command of the reader hears what it begins with
pub card_begun : (s : State) (service : Service) (t : Ticket) (a : Command Job) (ask : CardAsk) (e : card_reader.Effect) (next : Slot) (frames : List (List ℕ)) (connections : List Connection) (queues : Queues)
    → t ≡ ticket_of a → card_reader.row_of s.slot (CardEvent.Begin ask) ≡ card_reader.row e next → Hearing (with_slot s next) service t (card_says e) frames connections queues
    → BeginsAs (card_ask ask) s service a (record s { slot = next; connections = connections; queues = queues })
card_begun s service t a ask e next frames connections queues same is h =
    subst (λ (r : card_reader.Row). Hears (with_slot s r.next) service a (card_says r.effect) (record s { slot = next; connections = connections; queues = queues })) (sym is)
    (hears (with_slot s next) service a (card_says e) frames connections queues (subst (λ u. Hearing (with_slot s next) service u (card_says e) frames connections queues) same h))

-- a command of the reader has its result at once
pub card_ended : (s : State) (service : Service) (t : Ticket) (a : Command Job) (ask : CardAsk) (code : Code) (payload : Data) (next : Slot) (queues : Queues)
    → t ≡ ticket_of a → card_reader.row_of s.slot (CardEvent.Begin ask) ≡ card_reader.row (card_reader.done code payload) next
    → queues ≡ with_queue s.queues service (changed_at (with_result (outcome code payload)) t (queue_at s service))
    → BeginsAs (card_ask ask) s service a (record s { slot = next; queues = queues })
card_ended s service t a ask code payload next queues same is at =
    card_begun s service t a ask (card_reader.done code payload) next [] s.connections queues same is (tt, sym (unsent service t.client s.connections), at)

-- a DataEntry runs, and hears nothing yet
pub entry_begun : (s : State) (service : Service) (t : Ticket) (a : Command Job) (ask : EntryAsk) (e : keyboard.Effect) (next : Option Entry) (queues : Queues)
    → t ≡ ticket_of a → keyboard.row_of s.keypad (KeyEvent.Begin ask) ≡ keyboard.row e next → queues ≡ with_queue s.queues service (changed_at running t (queue_at s service))
    → BeginsAs (entry_ask ask) s service a (record s { keypad = next; queues = queues })
entry_begun s service t a ask e next queues same is at =
    let begun : Option Entry = Some (record { ask = ask; digits = [] }) in
    let there : next ≡ begun = sym (ap key_next_of is) in
    subst (λ (k : Option Entry). BeginsAs (entry_ask ask) s service a (record s { keypad = k; queues = queues })) (sym there)
    (hears (with_keypad s begun) service a silent [] s.connections queues
    (subst (λ (u : Ticket). Hearing (with_keypad s begun) service u silent [] s.connections queues) same (tt, sym (unsent service t.client s.connections), at)))

-- the command has its result
abbrev pub IsDone : card_reader.Effect → Type 0
IsDone e = (code : Code) × (payload : Data) × (e ≡ card_reader.done code payload)

-- what a Read begins with
abbrev pub ReadEffects : card_reader.Effect → Type 0
ReadEffects e = (e ≡ card_reader.ask_insert) ⊎ IsDone e

pub read_effects : (asked : List Bool) (slot : Slot) (e : card_reader.Effect) (next : Slot) → card_reader.read_row asked slot ≡ card_reader.row e next → ReadEffects e
read_effects asked empty e next is = inl (sym (ap effect_of is))
read_effects asked (awaited before) e next is = inl (sym (ap effect_of is))
read_effects asked (inside card) e next is = inr (Success, tracks_payload asked card, sym (ap effect_of is))
read_effects asked at_exit e next is = inr (SequenceError, empty_payload, sym (ap effect_of is))

-- an effect that is a result
pub ended_else : (effect : CardEffect) → IsDone (card_reader.effect_of effect) → ((code : Code) (value : Value) → effect ≢ reader.Done code value) → ⊥
ended_else reader.Nothing w other = let f : card_reader.nothing ≡ card_reader.done w.0 w.1 = w.2 in cc
ended_else reader.AskInsert w other = let f : card_reader.ask_insert ≡ card_reader.done w.0 w.1 = w.2 in cc
ended_else (reader.Inserted value) w other = let f : card_reader.inserted (view value) ≡ card_reader.done w.0 w.1 = w.2 in cc
ended_else (reader.Done code value) w other = other code value refl
ended_else reader.Removed w other = let f : card_reader.removed ≡ card_reader.done w.0 w.1 = w.2 in cc

asks_insert : (effect : CardEffect) → card_reader.effect_of effect ≡ card_reader.ask_insert → effect ≡ reader.AskInsert
asks_insert reader.Nothing e = let f : card_reader.nothing ≡ card_reader.ask_insert = e in cc
asks_insert reader.AskInsert e = refl
asks_insert (reader.Inserted value) e = let f : card_reader.inserted (view value) ≡ card_reader.ask_insert = e in cc
asks_insert (reader.Done code value) e = let f : card_reader.done code (view value) ≡ card_reader.ask_insert = e in cc
asks_insert reader.Removed e = let f : card_reader.removed ≡ card_reader.ask_insert = e in cc

pub read_else : (effect : CardEffect) → ReadEffects (card_reader.effect_of effect) → effect ≢ reader.AskInsert → ((code : Code) (value : Value) → effect ≢ reader.Done code value) → ⊥
read_else effect (inl e) asks other = asks (asks_insert effect e)
read_else effect (inr w) asks other = ended_else effect w other
