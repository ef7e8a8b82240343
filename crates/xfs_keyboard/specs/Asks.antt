-- The payload of Keyboard.DataEntry.
use Rattle.std.specs.Prelude.{◌≡◌, ℕ, List, codes, ⊤, Bool, false, IsSome, Option, Some, None, is_some, option_and_then, unwrap_or, Ok}
use Rattle.serde_json.specs.Data.{Data, Members, no_members, member}
use Rattle.serde_json.specs.Find.{get, as_bool, as_object}
use Rattle.xfs_json.specs.Members.{member_of, member_as, whole_in}
use Rattle.xfs_envelope.specs.Fields.{or_else}
use Rattle.xfs_mech.specs.Keys.{name_of}
use Rattle.xfs_mech.specs.declared.key.KeyName.{KeyName}
use Rattle.xfs_keyboard.specs.Keys.{has}
use Rattle.xfs_keyboard.specs.declared.ask.EntryAsk.{EntryAsk}

-- a truth value that is false where it is absent or null; None where the member has another shape
abbrev pub truth_of : List ℕ → Data → Option Bool
truth_of name d = or_else false (member_as as_bool (member_of name d))

abbrev pub IsKeyName : List ℕ → Type 0
IsKeyName name = (key : KeyName) × (name ≡ name_of key)

-- what stands behind an active key: an object whose terminate, where it is there, is a truth value
abbrev pub IsKeyEntry : Data → Type 0
IsKeyEntry d = IsSome (as_object d) × IsSome (truth_of (codes "terminate") d)

abbrev pub AllKeys : Members → Type 0
AllKeys no_members = ⊤
AllKeys (member name d ms) = IsKeyName name × IsKeyEntry d × AllKeys ms

-- one or more members, each of a key; their names differ, so they are at most 14
abbrev pub AreKeys : Option Members → Type 0
AreKeys None = ⊥
AreKeys (Some no_members) = ⊥
AreKeys (Some (member name d ms)) = AllKeys (member name d ms)

-- the member of a key in an object of keys
abbrev pub entry_of : KeyName → Data → Option Data
entry_of key keys = get (name_of key) keys

abbrev pub is_active : KeyName → Data → Bool
is_active key keys = is_some (entry_of key keys)

-- whether the key ends the entry: it is there, with a terminate that is true
abbrev pub terminates : KeyName → Data → Bool
terminates key keys = unwrap_or (option_and_then (truth_of (codes "terminate")) (entry_of key keys)) false

-- the payload asks for this entry
pub record AsksEntry (payload : Data) (ask : EntryAsk) : Type 0 where
  pub max_len : member_as (whole_in 1 64) (member_of (codes "maxLen") payload) ≡ Ok (Some ask.max_len)
  pub auto_end : truth_of (codes "autoEnd") payload ≡ Some ask.auto_end
  pub keys : AreKeys (option_and_then as_object (member_of (codes "activeKeys") payload))
  pub active : (key : KeyName) (keys : Data) → member_of (codes "activeKeys") payload ≡ Some keys → has key ask.active ≡ is_active key keys
  pub ends : (key : KeyName) (keys : Data) → member_of (codes "activeKeys") payload ≡ Some keys → has key ask.ends ≡ terminates key keys
