-- Which lists a crash may leave after a refused boot.
use Rattle.std.proofs.Common.{◌≡◌, ◌⊎◌, inl, inr, ℕ, Bool, true, false, List, [], ◌∷◌, ◌++◌, length, ◌≤◌, None, Some, refl, sym, ◌∙◌, ap, subst, true≢false}
use Rattle.std.specs.Prelude.{is_some, nat_lt, ◌<◌}
use Rattle.std.proofs.lemmas.Bool.{ltb-true, ltb-false}
use Rattle.std.specs.declared.option.Option.{Option}
use Rattle.xfs_base.specs.Causes.{IfTold}
use Rattle.xfs_base.specs.declared.counts.Places.{Places}
use Rattle.xfs_disk.specs.Moments.{LeavesOnly, EachImage}
use Rattle.xfs_disk.specs.declared.disk.Disk.{Ghosts}
use Rattle.xfs_journal.specs.Image.{StandsFor}
use Rattle.xfs_journal.specs.JournalView.{IsPossible, HasPossible, StandsForEither}
use Rattle.xfs_journal.specs.Paging.{IsQuiet}
use Rattle.xfs_journal.specs.declared.record.Rec.{Rec}
use Rattle.xfs_journal.specs.Journal.{boot_of, with_boot}
use Rattle.xfs_journal.proofs.Emptying.{short_stands}
use Rattle.xfs_journal.proofs.Unique.{stands_for_one}
use Rattle.xfs_guard.specs.CrashOutcomes.{IsOldOrFound}
use Rattle.xfs_guard.specs.Stored.{MayLeave, WasLeft}

-- what a disk that tells has
abbrev pub Tells : Option (List ℕ) → Type 0
Tells held = (all : List ℕ) × (held ≡ Some all)

pub tells : (held : Option (List ℕ)) → is_some held ≡ true → Tells held
tells None told = absurd (true≢false (sym told))
tells (Some all) told = (all, refl)

pub at_told : {T : Type 0} (held : Option T) (Holds : T → Type 0) (all : T) → held ≡ Some all → IfTold held Holds → Holds all
at_told held Holds all known fact = rw known at fact

-- a list that an image stands for is one of those that the image was said to stand for
pub one_of_either : (kept : List Rec) (r : Rec) (c : List ℕ) (records : List Rec) → StandsForEither kept r c → StandsFor c records → (records ≡ kept) ⊎ (records ≡ kept ++ r ∷ [])
one_of_either kept r c records (inl before) stands = inl (stands_for_one c records kept stands before)
one_of_either kept r c records (inr after) stands = inr (stands_for_one c records (kept ++ r ∷ []) stands after)

-- what a disk that tells has now is a list that it may leave
pub MayLeave-held : {D : Type 0} (g : Ghosts D) (d : D) (records : List Rec) → ((d : D) (all : List ℕ) → g.held d ≡ Some all → g.images d all)
    → is_some (g.held d) ≡ true → IfTold (g.held d) (λ all. StandsFor all records) → MayLeave g d records
MayLeave-held g d records as_read told stands =
    let known = tells (g.held d) told in
    record { told = told; bytes = known.0; left = as_read d known.0 known.1; stands = at_told (g.held d) (λ all. StandsFor all records) known.0 known.1 stands }

-- the disk was not mounted: a crash leaves what it left before
pub WasLeft-mount : {D : Type 0} (g : Ghosts D) (old new : D) (places : Places)
    → ((d : D) (all : List ℕ) → g.held d ≡ Some all → g.images d all) → ((d : D) (t : ℕ) (c : List ℕ) → t ≤ g.moment d → g.images d c → g.images_since d t c)
    → is_some (g.held new) ≡ is_some (g.held old) → IfTold (g.held old) (λ all. LeavesOnly g old new (IsOldOrFound (g.images old) all))
    → (records : List Rec) → MayLeave g new records → WasLeft g old places records
WasLeft-mount g old new places as_read counts_now same moments records may =
    let told : is_some (g.held old) ≡ true = sym same ∙ may.told in
    let known = tells (g.held old) told in
    let leaves = at_told (g.held old) (λ all. LeavesOnly g old new (IsOldOrFound (g.images old) all)) known.0 known.1 moments in
    from told known.0 (as_read old known.0 known.1) (leaves.each may.bytes (counts_now new (g.moment old) may.bytes leaves.later may.left))
  where
    from : is_some (g.held old) ≡ true → (all : List ℕ) → g.images old all → IsOldOrFound (g.images old) all may.bytes → WasLeft g old places records
    from told all here (inl was) = record { list = records; before = record { told = told; bytes = may.bytes; left = was; stands = may.stands }; grown = inl refl }
    from told all here (inr (found, stood, stands)) = record { list = found; before = record { told = told; bytes = all; left = here; stands = stood }; grown = inl (stands_for_one may.bytes records found may.stands stands) }

-- the boot record was not written, or it is not known whether it was
pub WasLeft-append : {D : Type 0} (g : Ghosts D) (old mid new end : D) (places : Places) (kept : List Rec)
    → ((d : D) (all : List ℕ) → g.held d ≡ Some all → g.images d all) → is_some (g.held mid) ≡ is_some (g.held old) → is_some (g.held new) ≡ is_some (g.held mid) → end ≡ new
    → IfTold (g.held old) (λ all. StandsFor all kept) → IfTold (g.held mid) (λ _. (c : List ℕ) → g.images new c → StandsForEither kept (boot_of kept places) c)
    → (records : List Rec) → MayLeave g end records → WasLeft g old places records
WasLeft-append g old mid new end places kept as_read mounted appended ended stands either records may =
    let after : is_some (g.held new) ≡ true = rw ended at may.told in
    let now : g.images new may.bytes = rw ended at may.left in
    let between : is_some (g.held mid) ≡ true = sym appended ∙ after in
    let told : is_some (g.held old) ≡ true = sym mounted ∙ between in
    let then = tells (g.held mid) between in
    let each = at_told (g.held mid) (λ _. (c : List ℕ) → g.images new c → StandsForEither kept (boot_of kept places) c) then.0 then.1 either in record {
      list = kept;
      before = MayLeave-held g old kept as_read told stands;
      grown = one_of_either kept (boot_of kept places) may.bytes records (each may.bytes now) may.stands;
    }

-- a list that a crash may leave is a possible one
pub left-possible : {D : Type 0} (g : Ghosts D) (d : D) (kept : List Rec) (in_doubt : Option Rec) → EachImage g d (HasPossible kept in_doubt)
    → (records : List Rec) → MayLeave g d records → IsPossible kept in_doubt records
left-possible g d kept in_doubt stored records may =
    let known = tells (g.held d) may.told in
    let has = at_told (g.held d) (λ _. (c : List ℕ) → g.images d c → HasPossible kept in_doubt c) known.0 known.1 stored may.bytes may.left in
    subst (λ (found : List Rec). IsPossible kept in_doubt found) (stands_for_one may.bytes has.0 records (inl has.2) may.stands) has.1

-- a refused mount leaves the list that every image stood for
pub stays-mount : {D : Type 0} (g : Ghosts D) (old new : D) (places : Places)
    → ((d : D) (all : List ℕ) → g.held d ≡ Some all → g.images d all) → ((d : D) (t : ℕ) (c : List ℕ) → t ≤ g.moment d → g.images d c → g.images_since d t c)
    → IfTold (g.held old) (λ all. LeavesOnly g old new (IsOldOrFound (g.images old) all))
    → IfTold (g.held old) (λ _. (records : List Rec) → ((c : List ℕ) → g.images old c → StandsFor c records) → (c : List ℕ) → g.images new c → StandsForEither records (boot_of records places) c)
stays-mount g old new places as_read counts_now moments = go (g.held old) refl moments
  where
    go : (h : Option (List ℕ)) → g.held old ≡ h → IfTold h (λ all. LeavesOnly g old new (IsOldOrFound (g.images old) all))
        → IfTold h (λ _. (records : List Rec) → ((c : List ℕ) → g.images old c → StandsFor c records) → (c : List ℕ) → g.images new c → StandsForEither records (boot_of records places) c)
    go None is m = tt
    go (Some all) is m = λ records each c now. inl (still all records (as_read old all is) each c (m.each c (counts_now new (g.moment old) c m.later now)))
      where
        still : (all : List ℕ) (records : List Rec) → g.images old all → ((c : List ℕ) → g.images old c → StandsFor c records) → (c : List ℕ) → IsOldOrFound (g.images old) all c → StandsFor c records
        still all records here each c (inl was) = each c was
        still all records here each c (inr (found, stood, stands)) = subst (λ (list : List Rec). StandsFor c list) (stands_for_one all found records stood (each all here)) stands

-- a boot record that is refused leaves it with the boot record or without
pub stays-append : {D : Type 0} (g : Ghosts D) (old mid new end : D) (places : Places) (kept : List Rec)
    → ((d : D) (all : List ℕ) → g.held d ≡ Some all → g.images d all) → is_some (g.held mid) ≡ is_some (g.held old) → end ≡ new
    → IfTold (g.held old) (λ all. StandsFor all kept) → IfTold (g.held mid) (λ _. (c : List ℕ) → g.images new c → StandsForEither kept (boot_of kept places) c)
    → IfTold (g.held old) (λ _. (records : List Rec) → ((c : List ℕ) → g.images old c → StandsFor c records) → (c : List ℕ) → g.images end c → StandsForEither records (boot_of records places) c)
stays-append g old mid new end places kept as_read mounted ended stands either = go (g.held old) refl stands
  where
    go : (h : Option (List ℕ)) → g.held old ≡ h → IfTold h (λ all. StandsFor all kept)
        → IfTold h (λ _. (records : List Rec) → ((c : List ℕ) → g.images old c → StandsFor c records) → (c : List ℕ) → g.images end c → StandsForEither records (boot_of records places) c)
    go None is s = tt
    go (Some all) is s = λ records each c now.
        let same : kept ≡ records = stands_for_one all kept records s (each all (as_read old all is)) in
        let told : is_some (g.held mid) ≡ true = mounted ∙ ap is_some is in
        let then = tells (g.held mid) told in
        subst (λ (list : List Rec). StandsForEither list (boot_of list places) c) same
        (at_told (g.held mid) (λ _. (c : List ℕ) → g.images new c → StandsForEither kept (boot_of kept places) c) then.0 then.1 either c (rw ended at now))

-- a refused mount leaves a disk that stands for no list as it was
pub unlisted-mount : {D : Type 0} (g : Ghosts D) (old new : D)
    → IfTold (g.held old) (λ all. 9 < length all → IsQuiet g old new)
    → IfTold (g.held old) (λ all. ((records : List Rec) → ¬ StandsFor all records) → IsQuiet g old new)
unlisted-mount g old new long = go (g.held old) long
  where
    go : (h : Option (List ℕ)) → IfTold h (λ all. 9 < length all → IsQuiet g old new)
        → IfTold h (λ all. ((records : List Rec) → ¬ StandsFor all records) → IsQuiet g old new)
    go None l = tt
    go (Some all) l = λ none. by_length none (nat_lt 9 (length all)) refl
      where
        by_length : ((records : List Rec) → ¬ StandsFor all records) → (b : Bool) → nat_lt 9 (length all) ≡ b → IsQuiet g old new
        by_length none true is = l (ltb-true 9 (length all) is)
        by_length none false is = absurd (none [] (short_stands all (ltb-false 9 (length all) is)))

-- a disk that was mounted stands for a list
pub unlisted-booted : (held : Option (List ℕ)) (kept : List Rec) (Claim : Type 0) → IfTold held (λ all. StandsFor all kept) → IfTold held (λ all. ((records : List Rec) → ¬ StandsFor all records) → Claim)
unlisted-booted None kept Claim stands = tt
unlisted-booted (Some all) kept Claim stands = λ none. absurd (none kept stands)
