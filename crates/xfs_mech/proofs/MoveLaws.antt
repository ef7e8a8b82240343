-- What a mechanism did over several steps.
use Rattle.std.proofs.Common.{◌≡◌, ℕ, List, [], ◌∷◌, ◌++◌, None, Some, refl, sym, ap, append_assoc}
use Rattle.std.proofs.lemmas.List.{append-nil}
use Rattle.std.specs.declared.option.Option.{Option}
use Rattle.std.specs.Prelude.{is_some}
use Rattle.xfs_base.specs.declared.counts.Places.{Places}
use Rattle.xfs_mech.specs.declared.motion.Motion.{Motion}
use Rattle.xfs_mech.specs.Mechanism.{AddsEntry}
use Rattle.xfs_mech.specs.Motions.{PlacesOf}
use Rattle.xfs_mech.specs.Moves.{GrowsBy, Moves, AddsUp, IsNewer}
use Rattle.xfs_mech.proofs.MotionLaws.{PlacesOf-same, PlacesOf-append}
use Rattle.xfs_mech.proofs.SumLaws.{Adds-PlacesOf}

pub GrowsBy-none : (list : Option (List Motion)) → GrowsBy [] list list
GrowsBy-none None = refl
GrowsBy-none (Some list) = ap Some (sym (append-nil list))

GrowsBy-append : (E F : List Motion) (a b c : Option (List Motion)) → GrowsBy E a b → GrowsBy F b c → GrowsBy (E ++ F) a c
GrowsBy-append E F None b c p q = rw p at q
GrowsBy-append E F (Some list) b c p q = rw (append_assoc list E F) at (rw p at q)

GrowsBy-entry : (e : Motion) (before now : Option (List Motion)) → AddsEntry before e now → GrowsBy (e ∷ []) before now
GrowsBy-entry e None now g = g
GrowsBy-entry e (Some list) now g = g

pub Moves-same : (list : Option (List Motion)) (P : Places) → Moves list list P P
Moves-same list P = record { entries = []; grown = GrowsBy-none list; reached = PlacesOf-same P }

pub Moves-trans : (a b c : Option (List Motion)) (P Q R : Places) → Moves a b P Q → Moves b c Q R → Moves a c P R
Moves-trans a b c P Q R m n = record {
  entries = m.entries ++ n.entries;
  grown = GrowsBy-append m.entries n.entries a b c m.grown n.grown;
  reached = PlacesOf-append P Q R m.entries n.entries m.reached n.reached;
}

-- one more entry
pub Moves-entry : (e : Motion) (before now : Option (List Motion)) (P Q : Places) → AddsEntry before e now → PlacesOf P (e ∷ []) Q → Moves before now P Q
Moves-entry e before now P Q grows places = record { entries = e ∷ []; grown = GrowsBy-entry e before now grows; reached = places }

pub AddsUp-Moves : (before now : Option (List Motion)) (P Q : Places) → Moves before now P Q → AddsUp before now P Q
AddsUp-Moves before now P Q m = record { entries = m.entries; grown = m.grown; adds = Adds-PlacesOf P Q m.entries m.reached }

pub AddsUp-same : (list : Option (List Motion)) (P : Places) → AddsUp list list P P
AddsUp-same list P = AddsUp-Moves list list P P (Moves-same list P)

pub IsNewer-same : (low : ℕ) (list : Option (List Motion)) → IsNewer low list list
IsNewer-same low list = record { entries = []; grown = GrowsBy-none list; newer = tt }

-- a list that grew is told where it was told before
pub told-GrowsBy : (entries : List Motion) (before now : Option (List Motion)) → GrowsBy entries before now → is_some now ≡ is_some before
told-GrowsBy entries None now g = ap is_some g
told-GrowsBy entries (Some list) now g = ap is_some g
