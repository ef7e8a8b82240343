-- The units of a storage, put in from the last to the first, and what is added to them.
use Rattle.std.proofs.Common.{◌≡◌, ℕ, suc, ◌+◌, ◌-◌, ◌≤◌, List, [], ◌∷◌, length, get_or, drop, Some, String, Bool, true, false, refl, sym, ◌∙◌, ap, arith}
use Rattle.std.proofs.Math.Seq.{drop-cons}
use Rattle.std.specs.Cmp.{nat_cmp_is}
use Rattle.std.specs.Ordering.{nat_cmp, match_ordering, ordering_then}
use Rattle.std.specs.declared.cmp.Ordering.{Ordering}
use Rattle.std.specs.declared.cmp.Ordering.TheVariants.{Less, Equal}
use Rattle.std.specs.Cmp.Lexicographic.{slice_cmp}
use Rattle.serde_json.specs.Data.{Data, Members, member, put}
use Rattle.serde_json.specs.View.{members_view}
use Rattle.serde_json.specs.declared.value.Value.{Value}
use Rattle.std.specs.declared.alloc.Global.{Global}
use Rattle.xfs_base.specs.Counts.{at}
use Rattle.xfs_base.specs.declared.counts.Counts.{Counts}
use Rattle.xfs_base.specs.declared.money.NoteKind.{NoteKind}
use Rattle.xfs_units.specs.Payloads.{unit_name, unit_payload, units_payload, AllAdded, AreAdded}

names-rise : (unit : ℕ) → slice_cmp nat_cmp (unit_name unit) (unit_name (unit + 1)) ≡ Less
names-rise unit = ap (λ (o : Ordering). ordering_then o Equal) (sym (nat_cmp_is (48 + unit) (48 + (unit + 1)) Less (omega arith)))

-- a unit is put before those that follow it
put-front : (ks : List NoteKind) (unit : ℕ) (counts : Counts) (d : Data) → put (unit_name unit) d (units_payload ks (unit + 1) counts) ≡ member (unit_name unit) d (units_payload ks (unit + 1) counts)
put-front [] unit counts d = refl
put-front (k ∷ ks) unit counts d =
    let here : Data = unit_payload k (at counts (unit + 1 - 1)) in
    let rest : Members = units_payload ks (unit + 1 + 1) counts in
    ap (λ (o : Ordering). match_ordering o (member (unit_name unit) d (member (unit_name (unit + 1)) here rest)) (member (unit_name (unit + 1)) d rest) (member (unit_name (unit + 1)) here (put (unit_name unit) d rest))) (names-rise unit)

pub units-step : (ks : List NoteKind) (j i : ℕ) (counts : Counts) (k : NoteKind) (d : Data) (old new : Members)
    → i ≡ j + 1 → i ≤ length ks → k ≡ get_or ks j k → d ≡ unit_payload k (at counts j) → old ≡ units_payload (drop i ks) (i + 1) counts → new ≡ put (unit_name (j + 1)) d old
    → new ≡ units_payload (drop j ks) (j + 1) counts
units-step ks j i counts k d old new e lt is what was put_is =
    let whole = drop-cons ks j k (omega arith) in
    let one : suc j ≡ i = omega arith in
    let split : drop j ks ≡ k ∷ drop i ks = cc in
    let back : j + 1 - 1 ≡ j = omega arith in
    let there = was ∙ ap (λ n. units_payload (drop i ks) (n + 1) counts) e in
    let unit = what ∙ ap (λ n. unit_payload k (at counts n)) (sym back) in
    rw split (put_is ∙ ap (put (unit_name (j + 1)) d) there ∙ put-front (drop i ks) (j + 1) counts d ∙ ap (λ (x : Data). member (unit_name (j + 1)) x (units_payload (drop i ks) (j + 1 + 1) counts)) unit)

pub AreAdded-filled : (es : List (String Global × Value)) (empty : Bool) → empty ≡ false → (length es ≡ 0 → empty ≡ true) → AllAdded (members_view es) → AreAdded (Some (members_view es))
AreAdded-filled [] empty is there all = let nothing = there refl in cc
AreAdded-filled (e ∷ es) empty is there all = all

pub AllAdded-from : (es : List (String Global × Value)) → AreAdded (Some (members_view es)) → AllAdded (members_view es)
AllAdded-from [] added = absurd added
AllAdded-from (e ∷ es) added = added
