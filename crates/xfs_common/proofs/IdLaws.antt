-- The request ids of a list, read from its first item to its last.
use Rattle.std.proofs.Common.{◌≡◌, ℕ, ◌+◌, ◌<◌, ◌≤◌, List, [], ◌∷◌, ◌++◌, length, get_or, drop, Option, Some, None, option_map, option_and_then, refl, sym, ◌∙◌, ap, append_assoc}
use Rattle.std.proofs.lemmas.List.{drop_more, append-nil, drop_all}
use Rattle.serde_json.specs.View.{view, items_view}
use Rattle.serde_json.specs.declared.value.Value.{Value}
use Rattle.xfs_json.specs.Members.{whole_in}
use Rattle.xfs_common.specs.Cancel.{ids_of}

-- ids that were read, before those that are read next
abbrev pub behind : List ℕ → Option (List ℕ) → Option (List ℕ)
behind done next = option_map (λ ids. done ++ ids) next

behind-nil : (next : Option (List ℕ)) → next ≡ behind [] next
behind-nil None = refl
behind-nil (Some ids) = refl

behind-more : (done : List ℕ) (id : ℕ) (next : Option (List ℕ)) → behind done (option_map (λ ids. id ∷ ids) next) ≡ behind (done ++ id ∷ []) next
behind-more done id None = refl
behind-more done id (Some ids) = ap Some (sym (append_assoc done (id ∷ []) ids))

pub ids-start : (items : List Value) → ids_of (items_view items) ≡ behind [] (ids_of (items_view (drop 0 items)))
ids-start items = behind-nil (ids_of (items_view items))

here : (items : List Value) (i : ℕ) (v : Value) → i < length items → v ≡ get_or items i v → ids_of (items_view (drop i items))
    ≡ option_and_then (λ id. option_map (λ ids. id ∷ ids) (ids_of (items_view (drop (i + 1) items)))) (whole_in 1 2147483647 (view v))
here items i v lt is =
    let split : drop i items ≡ v ∷ drop (i + 1) items = drop_more items i v lt ∙ ap (λ x. x ∷ drop (i + 1) items) (sym is) in
    ap (λ vs. ids_of (items_view vs)) split

pub ids-step : (items : List Value) (i : ℕ) (v : Value) (done : List ℕ) (id : ℕ) → i < length items → v ≡ get_or items i v → Some id ≡ whole_in 1 2147483647 (view v)
    → ids_of (items_view items) ≡ behind done (ids_of (items_view (drop i items)))
    → ids_of (items_view items) ≡ behind (done ++ id ∷ []) (ids_of (items_view (drop (i + 1) items)))
ids-step items i v done id lt is number before =
    let next = ids_of (items_view (drop (i + 1) items)) in
    let split = here items i v lt is ∙ ap (λ o. option_and_then (λ n. option_map (λ ids. n ∷ ids) next) o) (sym number) in
    before ∙ ap (behind done) split ∙ behind-more done id next

pub ids-stop : (items : List Value) (i : ℕ) (v : Value) (done : List ℕ) → i < length items → v ≡ get_or items i v → None ≡ whole_in 1 2147483647 (view v)
    → ids_of (items_view items) ≡ behind done (ids_of (items_view (drop i items)))
    → ids_of (items_view items) ≡ None
ids-stop items i v done lt is none before =
    let next = ids_of (items_view (drop (i + 1) items)) in
    before ∙ ap (behind done) (here items i v lt is ∙ ap (λ o. option_and_then (λ n. option_map (λ ids. n ∷ ids) next) o) (sym none))

pub ids-end : (items : List Value) (i : ℕ) (done : List ℕ) → length items ≤ i
    → ids_of (items_view items) ≡ behind done (ids_of (items_view (drop i items))) → ids_of (items_view items) ≡ Some done
ids-end items i done all before =
    before ∙ ap (λ vs. behind done (ids_of (items_view vs))) (drop_all i items all) ∙ ap Some (append-nil done)
