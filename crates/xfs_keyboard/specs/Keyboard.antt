-- The keyboard, a case a row: what a begin, a key, a fault and a stop do, without an entry and in one.
use Rattle.std.specs.Prelude.{ℕ, List, [], Option, Some, None, if◌then◌else◌}
use Rattle.serde_json.specs.Data.{Data}
use Rattle.serde_json.specs.View.{view}
use Rattle.xfs_mech.specs.declared.key.KeyName.{KeyName}
use Rattle.xfs_keyboard.specs.declared.ask.EntryAsk.{EntryAsk}
use Rattle.xfs_keyboard.specs.declared.state.KeyEffect.{KeyEffect}
use Rattle.xfs_keyboard.specs.declared.state.KeyEffect.TheVariants as effect
use Rattle.xfs_keyboard.specs.declared.state.KeyEvent.{KeyEvent}
use Rattle.xfs_keyboard.specs.declared.state.KeyEvent.TheVariants.{Begin, Key, Fault, Stop}
use Rattle.xfs_keyboard.specs.Entries.{Entry, is_ignored, typed, completion, entry_payload}

-- an effect, its payload seen as its value
pub data Effect : Type 0 where
  nothing : Effect
  told : KeyName → Effect
  ended : KeyName → Data → Effect
  failed : Effect

abbrev pub effect_of : KeyEffect → Effect
effect_of effect.Nothing = nothing
effect_of (effect.Told key) = told key
effect_of (effect.Ended key payload) = ended key (view payload)
effect_of effect.Failed = failed

-- the payload that an effect tells
abbrev pub payload_of : Effect → Option Data
payload_of nothing = None
payload_of (told key) = None
payload_of (ended key payload) = Some payload
payload_of failed = None

-- the effect of an event, and what is there next: an entry, or none
pub record Row : Type 0 where
  pub effect : Effect
  pub next : Option Entry

abbrev pub row : Effect → Option Entry → Row
row effect next = record { effect = effect; next = next }

-- a key that has an effect is told, and leaves the entry with these digits or ends it
abbrev pub behind_key : EntryAsk → KeyName → List KeyName → Option (List ℕ) → Row
behind_key ask key digits None = row (told key) (Some record { ask = ask; digits = digits })
behind_key ask key digits (Some completion) = row (ended key (entry_payload completion digits)) None

abbrev pub key_row : KeyName → Entry → Row
key_row key e =
    if is_ignored key e then row nothing (Some e)
    else behind_key e.ask key (typed key e.digits) (completion e.ask key (typed key e.digits))

abbrev pub row_of : Option Entry → KeyEvent → Row
row_of before (Begin ask) = row nothing (Some record { ask = ask; digits = [] })
row_of None (Key key) = row nothing None
row_of None Fault = row nothing None
row_of None Stop = row nothing None
row_of (Some e) (Key key) = key_row key e
row_of (Some e) Fault = row failed None
row_of (Some e) Stop = row nothing None
