-- The digits of a payload, one more at a time; and that the payload can be sent.
use Rattle.std.proofs.Common.{◌≡◌, ℕ, ◌+◌, ◌<◌, ◌≤◌, List, [], ◌∷◌, ◌++◌, length, get_or, take, false, refl, sym, ◌∙◌, ap, arith}
use Rattle.std.proofs.lemmas.List.{take_more}
use Rattle.serde_json.specs.Data.{Data, Items, no_items, item, items_depth}
use Rattle.serde_json.specs.View.{view, items_view}
use Rattle.serde_json.specs.Written.{items_have_float}
use Rattle.serde_json.specs.declared.value.Value.{Value}
use Rattle.xfs_envelope.specs.Messages.{IsPayload}
use Rattle.xfs_mech.specs.declared.key.KeyName.{KeyName}
use Rattle.xfs_keyboard.specs.Entries.{pin_key, pin_keys, entry_payload}

abbrev one_more : Items → Data → Items
one_more no_items d = item d no_items
one_more (item e es) d = item e (one_more es d)

items_view-push : (vs : List Value) (v : Value) → items_view (vs ++ v ∷ []) ≡ one_more (items_view vs) (view v)
items_view-push [] v = refl
items_view-push (x ∷ vs) v = ap (item (view x)) (items_view-push vs v)

pin_keys-push : (ds : List KeyName) (d : KeyName) → pin_keys (ds ++ d ∷ []) ≡ one_more (pin_keys ds) (pin_key d)
pin_keys-push [] d = refl
pin_keys-push (x ∷ ds) d = ap (item (pin_key x)) (pin_keys-push ds d)

pub pin-step : (vs : List Value) (v : Value) (ds : List KeyName) (d : KeyName) → items_view vs ≡ pin_keys ds → view v ≡ pin_key d
    → items_view (vs ++ v ∷ []) ≡ pin_keys (ds ++ d ∷ [])
pin-step vs v ds d there is = items_view-push vs v ∙ ap (λ items. one_more items (view v)) there ∙ ap (one_more (pin_keys ds)) is ∙ sym (pin_keys-push ds d)

pub pin-more : (vs : List Value) (v : Value) (ds : List KeyName) (i : ℕ) (d e : KeyName) → i < length ds → d ≡ get_or ds i e
    → items_view vs ≡ pin_keys (take i ds) → view v ≡ pin_key d → items_view (vs ++ v ∷ []) ≡ pin_keys (take (i + 1) ds)
pin-more vs v ds i d e lt at there is =
    let more : take (i + 1) ds ≡ take i ds ++ d ∷ [] = take_more ds i e lt ∙ ap (λ (x : KeyName). take i ds ++ x ∷ []) (sym at) in
    pin-step vs v (take i ds) d there is ∙ ap pin_keys (sym more)

pins-shallow : (ds : List KeyName) → items_depth (pin_keys ds) ≤ 1
pins-shallow [] = omega arith
pins-shallow (d ∷ ds) = let rest = pins-shallow ds in omega arith

pins-whole : (ds : List KeyName) → items_have_float (pin_keys ds) ≡ false
pins-whole [] = refl
pins-whole (d ∷ ds) = pins-whole ds

pub entry_payload-IsPayload : (completion : List ℕ) (ds : List KeyName) → IsPayload (entry_payload completion ds)
entry_payload-IsPayload completion ds =
    let shallow = pins-shallow ds in
    (refl, rw (pins-whole ds), omega arith)
