-- What lies in the machine against its last boot record, over each step.
use Rattle.std.proofs.Common.{◌≡◌, ◌≢◌, ◌+◌, inl, inr, ℕ, zero, suc, ◌<◌, ◌≤◌, Bool, true, false, List, [], ◌∷◌, ◌++◌, length, refl, ◌∙◌, arith, get_or-set_same, get_or-set_other}
use Rattle.std.specs.Prelude.{◌-◌, ◌==◌}
use Rattle.std.specs.declared.option.Option.{Option}
use Rattle.std.proofs.lemmas.Bool.{cases_eq, eq-eqb, ne_eqb}
use Rattle.std.proofs.lemmas.List.{length-set}
use Rattle.std.proofs.lemmas.List.Elements.{Contains-append_left, Contains-push}
use Rattle.xfs_base.specs.Counts.{at}
use Rattle.xfs_base.specs.declared.counts.Counts.{Counts}
use Rattle.xfs_base.specs.declared.counts.Kind.{Kind}
use Rattle.xfs_base.specs.declared.counts.Places.{Places}
use Rattle.xfs_mech.specs.declared.motion.Motion.{Motion}
use Rattle.xfs_mech.specs.declared.motion.Motion.TheVariants.{Moved, Taken, Loaded}
use Rattle.xfs_mech.specs.Mechanism.{Reports}
use Rattle.xfs_mech.specs.Motions.{PlacesOf, loaded}
use Rattle.xfs_mech.proofs.SumLaws.{Adds-PlacesOf}
use Rattle.xfs_journal.specs.JournalView.{IsPossible}
use Rattle.xfs_journal.specs.declared.record.Rec.{Rec}
use Rattle.xfs_journal.specs.Journal.{boot_of, with_boot}
use Rattle.xfs_journal.proofs.StartLaws.{boot_of-places}
use Rattle.xfs_guard.specs.Balance.{no_notes, with_notes, IsBalanced}

-- no unit has notes where none has
pub none_there : (u : ℕ) → at no_notes u ≡ 0
none_there zero = refl
none_there (suc zero) = refl
none_there (suc (suc zero)) = refl
none_there (suc (suc (suc zero))) = refl
none_there (suc (suc (suc (suc zero)))) = refl
none_there (suc (suc (suc (suc (suc zero))))) = refl
none_there (suc (suc (suc (suc (suc (suc zero)))))) = refl
none_there (suc (suc (suc (suc (suc (suc (suc zero))))))) = refl
none_there (suc (suc (suc (suc (suc (suc (suc (suc u)))))))) = refl

-- one more record
pub balanced-push : (records : List Rec) (r : Rec) (b : Places) (l : Counts) (places : Places) → IsBalanced records b l places → IsBalanced (records ++ r ∷ []) b l places
balanced-push records r b l places h = record { boot = h.boot; kept = Contains-append_left records (r ∷ []) h.boot h.kept; tells = h.tells; eight = h.eight; sums = h.sums }

-- a possible list was read again
pub balanced-possible : (records : List Rec) (d : Option Rec) (found : List Rec) (b : Places) (l : Counts) (places : Places) → IsPossible records d found → IsBalanced records b l places → IsBalanced found b l places
balanced-possible records d found b l places (inl is) h = rw is h
balanced-possible records d found b l places (inr (r, doubt, is)) h = rw is (balanced-push records r b l places h)

-- a boot record of the places
pub balanced-boot : (records : List Rec) (b was : Places) → b ≡ was → IsBalanced (with_boot records b) b no_notes was
balanced-boot records b was same = record { boot = boot_of records b; kept = Contains-push records (boot_of records b); tells = boot_of-places records b; eight = refl; sums = λ u. rw same (let none : at no_notes u ≡ 0 = none_there u in omega (arith, none)) }

-- an order loads nothing
pub balanced-moved : (records : List Rec) (b : Places) (l : Counts) (was now : Places) (n : ℕ) (k : Kind) (m d : Counts) → PlacesOf was (Moved n k m d ∷ []) now → IsBalanced records b l was → IsBalanced records b l now
balanced-moved records b l was now n k m d places h = record { boot = h.boot; kept = h.kept; tells = h.tells; eight = h.eight; sums = λ u. omega (arith, h.sums u, Adds-PlacesOf was now (Moved n k m d ∷ []) places u) }

-- nor does a taking
balanced-taken : (records : List Rec) (b : Places) (l : Counts) (was now : Places) (c : Counts) → PlacesOf was (Taken c ∷ []) now → IsBalanced records b l was → IsBalanced records b l now
balanced-taken records b l was now c places h = record { boot = h.boot; kept = h.kept; tells = h.tells; eight = h.eight; sums = λ u. omega (arith, h.sums u, Adds-PlacesOf was now (Taken c ∷ []) places u) }

-- one unit has so many notes more
with-here : (l : Counts) (unit count u : ℕ) → 1 ≤ unit → unit ≤ length l.0 → at (with_notes l unit count) u ≡ at l u + loaded u (Loaded unit count)
with-here l unit count u low high = elim (cases_eq u (unit - 1)) [
  | inl same ↦ (
      let lt : unit - 1 < length l.0 = omega (arith, low, high) in
      rw (same, get_or-set_same) (let one = eq-eqb unit (unit - 1 + 1) (omega (arith, low)) in rw one refl)
      )
  | inr other ↦ (
      let ne : u ≢ unit - 1 = other in
      let off : (unit == u + 1) ≡ false = ne_eqb unit (u + 1) (λ e. other (omega (arith, e))) in
      rw (get_or-set_other, off) (omega arith)
      )
]

-- a loading that doesn't fail
pub balanced-loaded : (records : List Rec) (b : Places) (l : Counts) (places places' : Places) (unit count : ℕ) (failed : Bool) (before now : Option (List Motion))
    → failed ≡ false → 1 ≤ unit → unit ≤ 8 → Reports (Loaded unit count) failed before now places places' → IsBalanced records b l places → IsBalanced records b (with_notes l unit count) places'
balanced-loaded records b l places places' unit count failed before now fine low few r h = record {
  boot = h.boot;
  kept = h.kept;
  tells = h.tells;
  eight = length-set l.0 (unit - 1) (at l (unit - 1) + count) ∙ h.eight;
  sums = λ u. omega (arith, h.sums u, Adds-PlacesOf places places' (Loaded unit count ∷ []) (r.moves fine).reached u, with-here l unit count u low (omega (arith, few, h.eight)));
}

-- a report that fails
pub balanced-failed : (records : List Rec) (b : Places) (l : Counts) (places places' : Places) (e : Motion) (failed : Bool) (before now : Option (List Motion))
    → failed ≡ true → Reports e failed before now places places' → IsBalanced records b l places → IsBalanced records b l places'
balanced-failed records b l places places' e failed before now is r h = rw (r.nothing is).1 h

-- a report of a taking
pub balanced-taking : (records : List Rec) (b : Places) (l : Counts) (places places' : Places) (c : Counts) (failed : Bool) (before now : Option (List Motion))
    → Reports (Taken c) failed before now places places' → IsBalanced records b l places → IsBalanced records b l places'
balanced-taking records b l places places' c true before now r h = balanced-failed records b l places places' (Taken c) true before now refl r h
balanced-taking records b l places places' c false before now r h = balanced-taken records b l places places' c (r.moves refl).reached h
