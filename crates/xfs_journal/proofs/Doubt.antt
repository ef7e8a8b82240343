-- What a crash leaves while a record is in doubt, and what a list that was read again says of it.
use Rattle.std.proofs.Common.{◌≡◌, ◌≢◌, ◌⊎◌, ◌∙◌, inl, inr, ℕ, ◌≤◌, ◌<◌, List, [], ◌∷◌, ◌++◌, length, take, drop, true, false, true≢false, Some, None, is_some, refl, sym, ap, subst, arith, append_assoc, length-append, length-take-le, length-drop, take-append-drop}
use Rattle.std.proofs.lemmas.List.{take-append-le, drop-append-le, length_push}
use Rattle.std.specs.List.{AllByRecursion}
use Rattle.std.specs.Prelude.{Bool, IfSome, slice_get}
use Rattle.std.specs.declared.option.Option.{Option}
use Rattle.xfs_base.specs.Causes.{IfTold}
use Rattle.xfs_journal.specs.Image.{IsImage, IsRecord, end_of}
use Rattle.xfs_journal.specs.Holding.{with_front}
use Rattle.xfs_journal.specs.Journal.{base_of}
use Rattle.xfs_journal.specs.JournalView.{HasVersion, IsAtRest, IsKept, IsInDoubt, IsMeasured, IsPossible, HasPossible}
use Rattle.xfs_disk.specs.declared.disk.Disk.{Ghosts}
use Rattle.xfs_journal.specs.Paging.{IsQuiet, CeasesAt}
use Rattle.xfs_journal.specs.declared.faults.MountFault.{MountFault}
use Rattle.xfs_journal.specs.declared.faults.MountFault.TheVariants.{NotJournal, Disk, Memory}
use Rattle.xfs_journal.specs.declared.record.Rec.{Rec}
use Rattle.xfs_journal.proofs.Appended.{spared, all-push}
use Rattle.xfs_journal.proofs.BaseLaws.{base_of-grows}
use Rattle.xfs_journal.proofs.Ceasing.{no_image}
use Rattle.xfs_journal.proofs.Told.{on_told, from_told, from_some, both_told}
use Rattle.xfs_journal.proofs.Unique.{at_most_one}

pub no_doubt : (h : Option (List ℕ)) (images : List ℕ → Type 0) (J : List Rec) (end : ℕ) → IsKept h images J false end → IsInDoubt h images J false None
no_doubt h images J end kept = record {
  none = λ _. refl;
  of_table = tt;
  possible = on_told h (λ _. (c : List ℕ) → images c → HasPossible J None c) (λ b known.
      let rest = from_told h (IsAtRest images J) (kept.at_rest refl) b known in
      (λ c left. (J, inl refl, spared J b rest.image c (rest.durable c left))));
}

-- the journal isn't shut, so nothing is in doubt
pub settled : (h h2 : Option (List ℕ)) (images images2 : List ℕ → Type 0) (J K : List Rec) (d : Option Rec) → IsInDoubt h images J false d → IsInDoubt h2 images2 K false None → IsInDoubt h2 images2 K false d
settled h h2 images images2 J K d was now = subst (λ (o : Option Rec). IsInDoubt h2 images2 K false o) (sym (was.none refl)) now

-- a disk that was not written
module _ {D : Type 0} (g : Ghosts D) (a b : D)
    (told : is_some (g.held b) ≡ is_some (g.held a)) (quiet : IfTold (g.held a) (λ _. IsQuiet g a b)) where
  is_quiet : (x : List ℕ) → g.held b ≡ Some x → IsQuiet g a b
  is_quiet x now =
      let was = both_told (g.held a) (g.held b) told x now in
      from_told (g.held a) (λ _. IsQuiet g a b) quiet was.0 was.1

  place_still : (J : List Rec) (shut : Bool) (end : ℕ) → IsKept (g.held a) (g.images a) J shut end → IfTold (g.held b) (λ _. end ≡ end_of J)
  place_still J shut end kept = on_told (g.held b) (λ _. end ≡ end_of J) (λ x now. from_told (g.held a) (λ _. end ≡ end_of J) kept.place x (sym (is_quiet x now).same ∙ now))

  pub kept_still : (J : List Rec) (shut : Bool) (end : ℕ) → IsKept (g.held a) (g.images a) J shut end → IsKept (g.held b) (g.images b) J shut end
  kept_still J shut end kept = record {
    place = place_still J shut end kept;
    small = kept.small;
    of_table = kept.of_table;
    at_rest = λ s. on_told (g.held b) (IsAtRest (g.images b) J) (λ x now.
        let q = is_quiet x now in
        let rest = from_told (g.held a) (IsAtRest (g.images a) J) (kept.at_rest s) x (sym q.same ∙ now) in
        record { image = rest.image; durable = λ c left. rest.durable c (q.adds_none c left) });
  }

  possible_still : (J : List Rec) (d : Option Rec) → IfTold (g.held a) (λ _. (c : List ℕ) → g.images a c → HasPossible J d c) → IfTold (g.held b) (λ _. (c : List ℕ) → g.images b c → HasPossible J d c)
  possible_still J d possible = on_told (g.held b) (λ _. (c : List ℕ) → g.images b c → HasPossible J d c) (λ x now.
      let q = is_quiet x now in
      (λ c left. from_told (g.held a) (λ _. (f : List ℕ) → g.images a f → HasPossible J d f) possible x (sym q.same ∙ now) c (q.adds_none c left)))

  pub doubt_still : (J : List Rec) (shut : Bool) (d : Option Rec) → IsInDoubt (g.held a) (g.images a) J shut d → IsInDoubt (g.held b) (g.images b) J shut d
  doubt_still J shut d doubt = record { none = doubt.none; of_table = doubt.of_table; possible = possible_still J d doubt.possible }

  pub version_still : (v : Option ℕ) → HasVersion (g.held a) v → HasVersion (g.held b) v
  version_still v has = on_told (g.held b) (λ all. IfSome v (λ n. slice_get all 7 ≡ Some n)) (λ x now.
      from_told (g.held a) (λ all. IfSome v (λ n. slice_get all 7 ≡ Some n)) has x (sym (is_quiet x now).same ∙ now))

  -- and whose journal is shut now
  pub kept_shut : (J : List Rec) (shut : Bool) (end : ℕ) → IsKept (g.held a) (g.images a) J shut end → IsKept (g.held b) (g.images b) J true end
  kept_shut J shut end kept = record { place = place_still J shut end kept; small = kept.small; of_table = kept.of_table; at_rest = λ s. absurd (true≢false s) }

  pub doubt_shut : (J : List Rec) (shut : Bool) (d : Option Rec) → IsInDoubt (g.held a) (g.images a) J shut d → IsInDoubt (g.held b) (g.images b) J true d
  doubt_shut J shut d doubt = record { none = λ s. absurd (true≢false s); of_table = doubt.of_table; possible = possible_still J d doubt.possible }

  -- and whose journal is shut now, or as it was
  pub kept_by : (J : List Rec) (shut now : Bool) (end : ℕ) → (now ≡ shut) ⊎ (now ≡ true) → IsKept (g.held a) (g.images a) J shut end → IsKept (g.held b) (g.images b) J now end
  kept_by J shut now end (inl is) kept = subst (λ (s : Bool). IsKept (g.held b) (g.images b) J s end) (sym is) (kept_still J shut end kept)
  kept_by J shut now end (inr is) kept = subst (λ (s : Bool). IsKept (g.held b) (g.images b) J s end) (sym is) (kept_shut J shut end kept)

  pub doubt_by : (J : List Rec) (shut now : Bool) (d : Option Rec) → (now ≡ shut) ⊎ (now ≡ true) → IsInDoubt (g.held a) (g.images a) J shut d → IsInDoubt (g.held b) (g.images b) J now d
  doubt_by J shut now d (inl is) doubt = subst (λ (s : Bool). IsInDoubt (g.held b) (g.images b) J s d) (sym is) (doubt_still J shut d doubt)
  doubt_by J shut now d (inr is) doubt = subst (λ (s : Bool). IsInDoubt (g.held b) (g.images b) J s d) (sym is) (doubt_shut J shut d doubt)

pub shut_cases : (why : MountFault) (shut now : Bool) → (why ≡ Memory → now ≡ shut) → (why ≢ Memory → now ≡ true) → (now ≡ shut) ⊎ (now ≡ true)
shut_cases Memory shut now same other = inl (same refl)
shut_cases Disk shut now same other = inr (other (λ e. cc))
shut_cases (NotJournal at) shut now same other = inr (other (λ e. cc))

-- what is read stands for one of the possible lists
pub imaged : (h : Option (List ℕ)) (images : List ℕ → Type 0) (J : List Rec) (d : Option Rec) → ((all : List ℕ) → h ≡ Some all → images all)
    → IfTold h (λ _. (c : List ℕ) → images c → HasPossible J d c) → IfTold h (λ all. HasPossible J d all)
imaged h images J d as_read possible = on_told h (λ all. HasPossible J d all) (λ all known. from_told h (λ _. (c : List ℕ) → images c → HasPossible J d c) possible all known all (as_read all known))

pub some_list : (h h2 : Option (List ℕ)) (J : List Rec) (d : Option Rec) → h2 ≡ h → IfTold h (λ all. HasPossible J d all) → IfTold h2 (λ all. (K : List Rec) × IsImage all K)
some_list h h2 J d same possible = on_told h2 (λ all. (K : List Rec) × IsImage all K) (λ all known.
    let has = from_told h (λ all. HasPossible J d all) possible all (sym same ∙ known) in (has.0, has.2))

-- the front of the kept list, and behind the base what was read
module _ (kept : List Rec) (d : Option Rec) (base : ℕ) (le : base ≤ length kept) where
  pub joined_possible : (found : List Rec) → IsPossible (drop base kept) d (drop base found) → IsPossible kept d (with_front base kept found)
  joined_possible found (inl is) = inl (ap (λ (l : List Rec). take base kept ++ l) is ∙ take-append-drop base kept)
  joined_possible found (inr (r, told, is)) = inr (
    r,
    told,
    ap (λ (l : List Rec). take base kept ++ l) is ∙ sym (append_assoc (take base kept) (drop base kept) (r ∷ [])) ∙ ap (λ (l : List Rec). l ++ r ∷ []) (take-append-drop base kept),
  )

  -- where a possible list was read, that is it
  pub joined_same : (found : List Rec) → IsPossible kept d found → with_front base kept found ≡ found
  joined_same found (inl is) = ap (λ (l : List Rec). take base l ++ drop base found) (sym is) ∙ take-append-drop base found
  joined_same found (inr (r, told, is)) =
      ap (λ (l : List Rec). l ++ drop base found) (sym (ap (λ (l : List Rec). take base l) is ∙ take-append-le base kept (r ∷ []) le)) ∙ take-append-drop base found

  -- a possible list is so behind the base
  pub possible_behind : (found : List Rec) → IsPossible kept d found → IsPossible (drop base kept) d (drop base found)
  possible_behind found (inl is) = inl (ap (λ (l : List Rec). drop base l) is)
  possible_behind found (inr (r, told, is)) = inr (r, told, ap (λ (l : List Rec). drop base l) is ∙ drop-append-le base kept (r ∷ []) le)

pub possible_of_table : (kept : List Rec) (d : Option Rec) (found : List Rec) → AllByRecursion IsRecord kept → IfSome d IsRecord → IsPossible kept d found → AllByRecursion IsRecord found
possible_of_table kept d found all is (inl same) = subst (λ (l : List Rec). AllByRecursion IsRecord l) (sym same) all
possible_of_table kept d found all is (inr (r, told, same)) = subst (λ (l : List Rec). AllByRecursion IsRecord l) (sym same) (all-push kept r all (from_some d IsRecord is r told))

-- the list where a disk was read again: the one that it tells, if it does
module _ (h h2 : Option (List ℕ)) (images : List ℕ → Type 0) (kept found : List Rec) (d : Option Rec) (base : ℕ) (le : base ≤ length kept)
    (possible : IfTold h (λ all. HasPossible kept d all)) (image : IfTold h (λ all. IsImage all found)) where
  pub told_possible : (all : List ℕ) → h ≡ Some all → IsPossible kept d found
  told_possible all known =
      let has = from_told h (λ all. HasPossible kept d all) possible all known in
      subst (λ (L : List Rec). IsPossible kept d L) (at_most_one all has.0 found has.2 (from_told h (λ all. IsImage all found) image all known)) has.1

  pub told_joined : (all : List ℕ) → h ≡ Some all → with_front base kept found ≡ found
  told_joined all known = joined_same kept d base le found (told_possible all known)

  pub image_joined : IfTold h (λ all. IsImage all (with_front base kept found))
  image_joined = on_told h (λ all. IsImage all (with_front base kept found)) (λ all known.
      subst (λ (l : List Rec). IsImage all l) (sym (told_joined all known)) (from_told h (λ all. IsImage all found) image all known))

  pub kept_joined : (end : ℕ) → is_some h2 ≡ is_some h → AllByRecursion IsRecord (with_front base kept found) → IsKept h2 images found false end → IsKept h2 images (with_front base kept found) false end
  kept_joined end told all is = record {
    place = on_told h2 (λ _. end ≡ end_of (with_front base kept found)) (λ b now.
        let was = both_told h h2 told b now in
        from_told h2 (λ _. end ≡ end_of found) is.place b now ∙ ap end_of (sym (told_joined was.0 was.1)));
    small = is.small;
    of_table = all;
    at_rest = λ s. on_told h2 (IsAtRest images (with_front base kept found)) (λ b now.
        let was = both_told h h2 told b now in
        subst (λ (l : List Rec). IsAtRest images l b) (sym (told_joined was.0 was.1)) (from_told h2 (IsAtRest images found) (is.at_rest s) b now));
  }

-- how long the list is then
pub joined_long : (kept found : List Rec) (base : ℕ) → base ≤ length kept → base ≤ length found → length (with_front base kept found) ≡ length found
joined_long kept found base le long = omega (arith, length-append (take base kept) (drop base found), length-take-le base kept le, length-drop base found, long)

-- where it ends then
pub measured_again : (kept found : List Rec) (d : Option Rec) (base end far end2 far2 : ℕ) → IsMeasured kept base d end far → IsPossible kept d found
    → (length found ≤ length kept → end2 ≡ end) → (length kept < length found → end2 ≡ far) → IsMeasured found base None end2 far2
measured_again kept found d base end far end2 far2 m (inl is) same more = record {
  end_is = same (omega (arith, ap length is)) ∙ m.end_is ∙ ap end_of (sym is);
  far_is = tt;
  led = subst (λ (l : List Rec). base ≤ base_of l) (sym is) m.led;
}
measured_again kept found d base end far end2 far2 m (inr (r, told, is)) same more = record {
  end_is = more (omega (arith, ap length is, length_push kept r)) ∙ from_some d (λ r. far ≡ end_of (kept ++ r ∷ [])) m.far_is r told ∙ ap end_of (sym is);
  far_is = tt;
  led = subst (λ (l : List Rec). base ≤ base_of l) (sym is) (omega (arith, m.led, base_of-grows kept r));
}

-- so bytes that are no journal are told by no disk
pub ceases_silent : (h : Option (List ℕ)) (at : ℕ) → IfTold h (λ all. CeasesAt all at) → IfTold h (λ all. (J : List Rec) × IsImage all J) → h ≡ None
ceases_silent None at ceases image = refl
ceases_silent (Some all) at ceases image = absurd (no_image all at ceases image.0 image.1)

-- nor is another list
pub other_silent : (h : Option (List ℕ)) (J K : List Rec) (d : Option Rec) → IfTold h (λ all. HasPossible J d all) → IfTold h (λ all. IsImage all K) → ¬ IsPossible J d K → h ≡ None
other_silent None J K d possible image other = refl
other_silent (Some all) J K d possible image other = absurd (other (subst (λ (L : List Rec). IsPossible J d L) (at_most_one all possible.0 K possible.2 image) possible.1))

-- nor is one that isn't possible behind the base
pub behind_silent : (h : Option (List ℕ)) (J K : List Rec) (d : Option Rec) (base : ℕ) → base ≤ length J → IfTold h (λ all. HasPossible J d all) → IfTold h (λ all. IsImage all K)
    → ¬ IsPossible (drop base J) d (drop base K) → h ≡ None
behind_silent h J K d base le possible image other = other_silent h J K d possible image (λ is. other (possible_behind J d base le K is))
