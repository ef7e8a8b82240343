-- The card reader, a case a row: what a begin, an insertion, a removal, a fault and a stop do at each place of the card.
use Rattle.std.specs.Prelude.{List, Bool, Option, Some, None}
use Rattle.serde_json.specs.Data.{Data}
use Rattle.serde_json.specs.View.{view}
use Rattle.xfs_common.specs.Errors.{error_text}
use Rattle.xfs_common.specs.Payloads.{nothing as empty_payload, error_payload}
use Rattle.xfs_common.specs.declared.error.ErrorCode.TheVariants.{NoMedia}
use Rattle.xfs_envelope.specs.declared.code.Code.{Code}
use Rattle.xfs_envelope.specs.declared.code.Code.TheVariants.{Success, CommandErrorCode, HardwareError, SequenceError}
use Rattle.xfs_mech.specs.Tracks.{CardTracks}
use Rattle.xfs_card.specs.declared.ask.CardAsk.TheVariants.{Read, Move, Reset}
use Rattle.xfs_card.specs.declared.state.CardEffect.{CardEffect}
use Rattle.xfs_card.specs.declared.state.CardEffect.TheVariants as effect
use Rattle.xfs_card.specs.declared.state.CardEvent.{CardEvent}
use Rattle.xfs_card.specs.declared.state.CardEvent.TheVariants.{Begin, Inserted, Removed, Fault, Stop}
use Rattle.xfs_card.specs.Slot.{Slot, empty, awaited, inside, at_exit}
use Rattle.xfs_card.specs.Tracks.{tracks_payload}

-- an effect, its payload seen as its value
pub data Effect : Type 0 where
  nothing : Effect
  ask_insert : Effect
  inserted : Data → Effect
  done : Code → Data → Effect
  removed : Effect

abbrev pub effect_of : CardEffect → Effect
effect_of effect.Nothing = nothing
effect_of effect.AskInsert = ask_insert
effect_of (effect.Inserted payload) = inserted (view payload)
effect_of (effect.Done code payload) = done code (view payload)
effect_of effect.Removed = removed

-- the payload that an effect tells
abbrev pub payload_of : Effect → Option Data
payload_of nothing = None
payload_of ask_insert = None
payload_of (inserted payload) = Some payload
payload_of (done code payload) = Some payload
payload_of removed = None

-- the effect of an event, and where the card is next
pub record Row : Type 0 where
  pub effect : Effect
  pub next : Slot

abbrev pub row : Effect → Slot → Row
row effect next = record { effect = effect; next = next }

-- the command ends with this code and the payload {}
abbrev pub ended : Code → Effect
ended code = done code empty_payload

-- the command ends with the error noMedia
abbrev pub no_media : Effect
no_media = done CommandErrorCode (error_payload (error_text NoMedia))

-- a Read begins
abbrev pub read_row : List Bool → Slot → Row
read_row asked empty = row ask_insert (awaited asked)
read_row asked (awaited before) = row ask_insert (awaited asked)
read_row asked (inside card) = row (done Success (tracks_payload asked card)) (inside card)
read_row asked at_exit = row (ended SequenceError) at_exit

-- a Move begins
abbrev pub move_row : Slot → Row
move_row empty = row no_media empty
move_row (awaited asked) = row no_media (awaited asked)
move_row (inside card) = row (ended Success) at_exit
move_row at_exit = row no_media at_exit

-- a Reset begins
abbrev pub reset_row : Slot → Row
reset_row empty = row (ended Success) empty
reset_row (awaited asked) = row (ended Success) (awaited asked)
reset_row (inside card) = row (ended Success) at_exit
reset_row at_exit = row (ended Success) at_exit

-- a card is inserted
abbrev pub inserted_row : CardTracks → Slot → Row
inserted_row card empty = row nothing (inside card)
inserted_row card (awaited asked) = row (inserted (tracks_payload asked card)) (inside card)
inserted_row card (inside before) = row nothing (inside before)
inserted_row card at_exit = row nothing at_exit

-- the card is removed
abbrev pub removed_row : Slot → Row
removed_row empty = row nothing empty
removed_row (awaited asked) = row nothing (awaited asked)
removed_row (inside card) = row nothing (inside card)
removed_row at_exit = row removed empty

-- the reader fails
abbrev pub fault_row : Slot → Row
fault_row empty = row nothing empty
fault_row (awaited asked) = row (ended HardwareError) empty
fault_row (inside card) = row nothing (inside card)
fault_row at_exit = row nothing at_exit

-- the command that runs ends without a result of its own
abbrev pub stop_row : Slot → Row
stop_row empty = row nothing empty
stop_row (awaited asked) = row nothing empty
stop_row (inside card) = row nothing (inside card)
stop_row at_exit = row nothing at_exit

abbrev pub row_of : Slot → CardEvent → Row
row_of slot (Begin (Read asked)) = read_row asked slot
row_of slot (Begin Move) = move_row slot
row_of slot (Begin Reset) = reset_row slot
row_of slot (Inserted card) = inserted_row card slot
row_of slot Removed = removed_row slot
row_of slot Fault = fault_row slot
row_of slot Stop = stop_row slot
