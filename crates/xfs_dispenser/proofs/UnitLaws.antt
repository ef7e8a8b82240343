-- The names of units and the values beside them, as tests and as facts.
use Rattle.std.proofs.Common.{◌≡◌, ℕ, zero, suc, ◌+◌, ◌<◌, ◌≤◌, Bool, true, false, List, [], ◌∷◌, length, None, Some, refl, arith}
use Rattle.std.specs.Prelude.{◌||◌, ◌≢◌, ⊤, IfSome, IfNone, is_some, map}
use Rattle.std.specs.List.{list_any}
use Rattle.std.specs.Str.{bytes_eq}
use Rattle.std.specs.declared.option.Option.{Option}
use Rattle.std.proofs.lemmas.Bool.{and_parts, and_from}
use Rattle.std.proofs.lemmas.Slice.Eq.{bytes_eq-Decides}
use Rattle.serde_json.specs.Data.{Members, no_members, member}
use Rattle.xfs_base.specs.Counts.{at}
use Rattle.xfs_guard.proofs.ReplayLaws.{eight as units_of}
use Rattle.xfs_units.specs.Payloads.{unit_name, added_of, AllAdded, IsUnitName, AreUnits}
use Rattle.xfs_dispenser.specs.Named.{all_units, is_unit, are_units, are_all}

named_by : (unit : ℕ) → 1 ≤ unit → unit ≤ 8 → is_unit (unit_name unit) ≡ true
named_by zero low high = absurd (omega (arith, low))
named_by (suc zero) low high = refl
named_by (suc (suc zero)) low high = refl
named_by (suc (suc (suc zero))) low high = refl
named_by (suc (suc (suc (suc zero)))) low high = refl
named_by (suc (suc (suc (suc (suc zero))))) low high = refl
named_by (suc (suc (suc (suc (suc (suc zero)))))) low high = refl
named_by (suc (suc (suc (suc (suc (suc (suc zero))))))) low high = refl
named_by (suc (suc (suc (suc (suc (suc (suc (suc zero)))))))) low high = refl
named_by (suc (suc (suc (suc (suc (suc (suc (suc (suc n))))))))) low high = absurd (omega (arith, high))

is_unit-from : (name : List ℕ) → IsUnitName name → is_unit name ≡ true
is_unit-from name is = rw (is.3) (named_by is.0 is.1 is.2)

abbrev AreWithin : List ℕ → Type 0
AreWithin [] = ⊤
AreWithin (u ∷ us) = (1 ≤ u) × (u ≤ 8) × AreWithin us

among : (us : List ℕ) (name : List ℕ) → AreWithin us → list_any (λ unit. bytes_eq name (unit_name unit)) us ≡ true → IsUnitName name
among [] name within any = cc
among (u ∷ us) name within any = here (bytes_eq name (unit_name u)) refl (among us name within.2) any
  where
    here : (b : Bool) → bytes_eq name (unit_name u) ≡ b → (list_any (λ unit. bytes_eq name (unit_name unit)) us ≡ true → IsUnitName name)
        → (b || list_any (λ unit. bytes_eq name (unit_name unit)) us) ≡ true → IsUnitName name
    here true is behind any = (u, within.0, within.1, (bytes_eq-Decides name (unit_name u)).0 is)
    here false is behind any = behind any

all_within : AreWithin all_units
all_within = (omega arith, omega arith, (omega arith, omega arith, (omega arith, omega arith, (omega arith, omega arith, (omega arith, omega arith, (omega arith, omega arith, (omega arith, omega arith, (omega arith, omega arith, tt))))))))

is_unit-to : (name : List ℕ) → is_unit name ≡ true → IsUnitName name
is_unit-to name is = among all_units name all_within is

-- a name is that of a unit exactly where a unit is found for it
pub unit-found : (found : Option ℕ) (name : List ℕ) → IfSome found (λ unit. (1 ≤ unit) × (unit ≤ 8) × (name ≡ unit_name unit))
    → IfNone found ((unit : ℕ) → 1 ≤ unit → unit ≤ 8 → name ≢ unit_name unit) → is_some found ≡ is_unit name
unit-found (Some unit) name is none = let there = is_unit-from name (unit, is.0, is.1, is.2) in cc
unit-found None name is none = by_test (is_unit name) refl
  where
    by_test : (b : Bool) → is_unit name ≡ b → false ≡ is_unit name
    by_test false e = let same = e in cc
    by_test true e = let unit = is_unit-to name e in absurd (none unit.0 unit.1 unit.2 unit.3)

pub are_units-from : (ms : Members) → AreUnits ms → are_units ms ≡ true
are_units-from no_members all = refl
are_units-from (member name d ms) all = and_from (is_unit name) (are_units ms) (is_unit-from name all.0) (are_units-from ms all.1)

pub are_units-to : (ms : Members) → are_units ms ≡ true → AreUnits ms
are_units-to no_members all = tt
are_units-to (member name d ms) all =
    let both = and_parts (is_unit name) (are_units ms) all in
    (is_unit-to name both.0, are_units-to ms both.1)

pub are_all-from : (ms : Members) → AllAdded ms → are_all added_of ms ≡ true
are_all-from no_members all = refl
are_all-from (member name d ms) all = and_from (is_some (added_of d)) (are_all added_of ms) all.0 (are_all-from ms all.1)

pub are_all-to : (ms : Members) → are_all added_of ms ≡ true → AllAdded ms
are_all-to no_members all = tt
are_all-to (member name d ms) all =
    let both = and_parts (is_some (added_of d)) (are_all added_of ms) all in
    (both.0, are_all-to ms both.1)

-- eight counts that are each told by their unit
pub eight : (f : ℕ → ℕ) (xs : List ℕ) → length xs ≡ 8 → ((u : ℕ) → u < 8 → at record { 0 = xs } u ≡ f (u + 1)) → xs ≡ map f all_units
eight f xs long is = units_of (λ u. f (u + 1)) xs long is
