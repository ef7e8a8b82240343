-- An object of keys with a member, and one without.
use Rattle.std.proofs.Common.{◌≡◌, List, [], ◌∷◌, length, Some, String, Bool, false, true, refl}
use Rattle.std.specs.declared.alloc.Global.{Global}
use Rattle.serde_json.specs.View.{members_view}
use Rattle.serde_json.specs.declared.value.Value.{Value}
use Rattle.xfs_keyboard.specs.Asks.{AllKeys, AreKeys}

pub AreKeys-filled : (es : List (String Global × Value)) (empty : Bool) → empty ≡ false → (length es ≡ 0 → empty ≡ true) → AllKeys (members_view es) → AreKeys (Some (members_view es))
AreKeys-filled [] empty is there all = let nothing = there refl in cc
AreKeys-filled (e ∷ es) empty is there all = all

pub AllKeys-from : (es : List (String Global × Value)) → AreKeys (Some (members_view es)) → AllKeys (members_view es)
AllKeys-from [] keys = absurd keys
AllKeys-from (e ∷ es) keys = keys
