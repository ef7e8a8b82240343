-- An entry of digits: what a key does to it, how it ends, and the payload that tells it.
use Rattle.std.specs.Prelude.{◌≤◌, ℕ, ◌-◌, ◌==◌, ◌&&◌, ◌||◌, not, List, [], ◌∷◌, ◌++◌, length, take, codes, Bool, Option, Some, None, ⊤, if◌then◌else◌}
use Rattle.serde_json.specs.Data.{Data, number, unsigned, string, array, object, Items, no_items, item, no_members, member}
use Rattle.xfs_mech.specs.Keys.{name_of}
use Rattle.xfs_mech.specs.declared.key.KeyName.{KeyName}
use Rattle.xfs_mech.specs.declared.key.KeyName.TheVariants.{Clear, Backspace}
use Rattle.xfs_keyboard.specs.declared.ask.EntryAsk.{EntryAsk}
use Rattle.xfs_keyboard.specs.Keys.{has, is_digit}

-- what was asked for, and the digits so far
pub record Entry : Type 0 where
  pub ask : EntryAsk
  pub digits : List KeyName

-- there are at most as many digits as were asked for
abbrev pub HasFewDigits : Entry → Type 0
HasFewDigits e = length e.digits ≤ e.ask.max_len

-- a keyboard has no entry, or one that is within its length
abbrev pub IsKeyboard : Option Entry → Type 0
IsKeyboard None = ⊤
IsKeyboard (Some e) = HasFewDigits e

-- a key that isn't active, or a digit past the last
abbrev pub is_ignored : KeyName → Entry → Bool
is_ignored key e = not (has key e.ask.active) || (is_digit key && (length e.digits == e.ask.max_len))

-- `backspace` drops the last digit if there is one, `clear` drops all
abbrev pub corrected : KeyName → List KeyName → List KeyName
corrected Backspace digits = take (length digits - 1) digits
corrected Clear digits = []
corrected key digits = digits

-- the digits behind a key: a digit is appended
abbrev pub typed : KeyName → List KeyName → List KeyName
typed key digits = if is_digit key then digits ++ key ∷ [] else corrected key digits

-- the digit that is appended, if one is
abbrev pub listed : Option KeyName → List KeyName
listed None = []
listed (Some key) = key ∷ []

-- how the entry ends with these digits, where this key ends it: by the key's name, or `auto` at the last digit
abbrev pub completion : EntryAsk → KeyName → List KeyName → Option (List ℕ)
completion ask key digits =
    if has key ask.ends then Some (name_of key)
    else if is_digit key && (length digits == ask.max_len) && ask.auto_end then Some (codes "auto")
    else None

abbrev pub pin_key : KeyName → Data
pin_key key = object (member (codes "digit") (string (name_of key)) no_members)

abbrev pub pin_keys : List KeyName → Items
pin_keys [] = no_items
pin_keys (key ∷ keys) = item (pin_key key) (pin_keys keys)

-- the payload of a DataEntry that ended
abbrev pub entry_payload : List ℕ → List KeyName → Data
entry_payload completion digits = object
    (member (codes "completion") (string completion)
    (member (codes "keys") (number (unsigned (length digits)))
    (member (codes "pinKeys") (array (pin_keys digits)) no_members)))
