-- What a SetStorage adds, from what is told of the members of its `storage`.
use Rattle.std.proofs.Common.{◌≡◌, ℕ, ◌+◌, ◌<◌, true, false, List, length, None, Some, refl, ap}
use Rattle.std.specs.Prelude.{IfSome, map, option_and_then, unwrap_or}
use Rattle.std.specs.declared.option.Option.{Option}
use Rattle.std.proofs.lemmas.Bool.{false_from_ne_true}
use Rattle.serde_json.specs.Data.{Data, Members, no_members, member}
use Rattle.serde_json.specs.Find.{get, as_object}
use Rattle.xfs_base.specs.Counts.{at}
use Rattle.xfs_base.specs.declared.counts.Counts.{Counts}
use Rattle.xfs_units.specs.Payloads.{unit_name, added_of, AreAdded, AreUnits}
use Rattle.xfs_dispenser.specs.declared.named.Named.{Named}
use Rattle.xfs_dispenser.specs.declared.named.Named.TheVariants.{These, OtherName}
use Rattle.xfs_dispenser.specs.Named.{all_units, are_units, are_all, count_in, counted_in, added_in}
use Rattle.xfs_dispenser.proofs.UnitLaws.{are_units-from, are_units-to, are_all-from, are_all-to, eight}

-- the object in `storage`, what it adds to a unit, and all that it adds
abbrev object_in : Option Data → Option Members
object_in found = option_and_then as_object found

abbrev adds_to : ℕ → Option Data → ℕ
adds_to unit found = unwrap_or (option_and_then added_of (option_and_then (get (unit_name unit)) found)) 0

abbrev adds : Option Data → Option Named
adds found = option_and_then (λ d. option_and_then (added_in d) (as_object d)) found

counted-these : (d : Data) (ms : Members) (added : Counts) → are_all added_of ms ≡ true → are_units ms ≡ true → added.0 ≡ map (λ unit. count_in added_of unit d) all_units
    → Some (These added) ≡ counted_in added_of d ms
counted-these d ms added all named same = rw (all, named) (ap (λ (l : List ℕ). Some (These record { 0 = l })) same)

counted-other : (d : Data) (ms : Members) → are_all added_of ms ≡ true → are_units ms ≡ false → Some OtherName ≡ counted_in added_of d ms
counted-other d ms all other = rw (all, other) refl

counted-none : (d : Data) (ms : Members) → are_all added_of ms ≡ false → None ≡ counted_in added_of d ms
counted-none d ms none = rw none refl

pub adds-these : (found : Option Data) (added : Counts) → length added.0 ≡ 8 → AreAdded (object_in found) → IfSome (object_in found) AreUnits
    → ((u : ℕ) → u < 8 → at added u ≡ adds_to (u + 1) found) → Some (These added) ≡ adds found
adds-these None added long are named counts = absurd are
adds-these (Some d) added long are named counts = go (as_object d) are named
  where
    go : (o : Option Members) → AreAdded o → IfSome o AreUnits → Some (These added) ≡ option_and_then (added_in d) o
    go None are named = absurd are
    go (Some no_members) are named = absurd are
    go (Some (member name e ms)) are named =
        counted-these d (member name e ms) added (are_all-from (member name e ms) are) (are_units-from (member name e ms) named) (eight (λ unit. count_in added_of unit d) added.0 long counts)

pub adds-other : (found : Option Data) → AreAdded (object_in found) → ¬ IfSome (object_in found) AreUnits → Some OtherName ≡ adds found
adds-other None are other = absurd are
adds-other (Some d) are other = go (as_object d) are other
  where
    go : (o : Option Members) → AreAdded o → ¬ IfSome o AreUnits → Some OtherName ≡ option_and_then (added_in d) o
    go None are other = absurd are
    go (Some no_members) are other = absurd are
    go (Some (member name e ms)) are other =
        counted-other d (member name e ms) (are_all-from (member name e ms) are) (false_from_ne_true (are_units (member name e ms)) (λ named. other (are_units-to (member name e ms) named)))

pub adds-none : (found : Option Data) → ¬ AreAdded (object_in found) → None ≡ adds found
adds-none None none = refl
adds-none (Some d) none = go (as_object d) none
  where
    go : (o : Option Members) → ¬ AreAdded o → None ≡ option_and_then (added_in d) o
    go None none = refl
    go (Some no_members) none = refl
    go (Some (member name e ms)) none =
        counted-none d (member name e ms) (false_from_ne_true (are_all added_of (member name e ms)) (λ all. none (are_all-to (member name e ms) all)))
