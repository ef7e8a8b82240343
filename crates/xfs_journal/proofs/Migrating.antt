-- What a write of the eighth byte makes of a file, and what it leaves.
use Rattle.std.proofs.Common.{◌≡◌, inl, ℕ, ◌<◌, List, [], ◌∷◌, ◌++◌, length, drop, false, Some, None, is_some, option_map, refl, sym, ◌∙◌, ap, subst, arith}
use Rattle.std.specs.Prelude.{⊤, slice_get}
use Rattle.std.specs.declared.option.Option.{Option}
use Rattle.std.proofs.lemmas.Option.{same_Some}
use Rattle.xfs_base.specs.Causes.{IfTold}
use Rattle.xfs_disk.specs.Disk.{overlaid, Torn, ImagesFollow}
use Rattle.xfs_journal.specs.Gate.{MayBecome}
use Rattle.xfs_journal.specs.Image.{StandsFor, end_of, magic}
use Rattle.xfs_journal.specs.JournalView.{HasVersion, IsButForEighth, IsAtRest, IsKept}
use Rattle.xfs_journal.specs.declared.record.Rec.{Rec}
use Rattle.xfs_journal.proofs.Appended.{spared, starts}
use Rattle.xfs_journal.proofs.Opening.{torn_gate}
use Rattle.xfs_journal.proofs.Told.{on_told, from_told, both_told}

-- a journal that isn't shut
module _ (h : Option (List ℕ)) (images : List ℕ → Type 0) (J : List Rec) (end : ℕ) (kept : IsKept h images J false end) where
  rests : (b : List ℕ) → h ≡ Some b → IsAtRest images J b
  rests b known = from_told h (IsAtRest images J) (kept.at_rest refl) b known

  at : (b : List ℕ) → h ≡ Some b → end ≡ end_of J
  at b known = from_told h (λ _. end ≡ end_of J) kept.place b known

  pub long_enough : IfTold h (λ all. 7 < length all)
  long_enough = on_told h (λ all. 7 < length all) (λ b known. omega (arith, at b known, (starts J end (at b known) b (rests b known).image).0))

  -- but for that byte, the file stays in each outcome of the write
  pub spares : (b : List ℕ) → h ≡ Some b → (c : List ℕ) → MayBecome images 7 1 c → IsButForEighth b c
  spares b known c (d, was, torn) =
      let s = (rests b known).durable d was in
      torn_gate magic [] s.0 (drop 8 b) 7 refl c (subst (λ (l : List ℕ). Torn 7 1 l c) s.1 torn)

  pub stands_still : (b : List ℕ) → h ≡ Some b → (c : List ℕ) → MayBecome images 7 1 c → StandsFor c J
  stands_still b known c may = inl (spared J b (rests b known).image c (spares b known c may))

  module _ (h2 : Option (List ℕ)) (images2 : List ℕ → Type 0) (told : is_some h2 ≡ is_some h) where
    pub kept_still : ImagesFollow (Torn 7 1) images images2 → ((c : List ℕ) → h2 ≡ Some c → images2 c) → IsKept h2 images2 J false end
    kept_still crash as_read = record {
      place = on_told h2 (λ _. end ≡ end_of J) (λ c now. let was = both_told h h2 told c now in at was.0 was.1);
      small = kept.small;
      of_table = kept.of_table;
      at_rest = λ _. on_told h2 (IsAtRest images2 J) (λ c now.
          let was = both_told h h2 told c now in
          let here = spares was.0 was.1 c (crash c (as_read c now)) in
          record {
            image = spared J was.0 (rests was.0 was.1).image c here;
            durable = λ f left.
                let there = spares was.0 was.1 f (crash f left) in
                (there.0, there.1 ∙ ap (λ (l : List ℕ). magic ++ there.0 ∷ drop 8 l) (sym here.1));
          });
    }

    pub renewed : h2 ≡ option_map (λ all. overlaid all 7 (0x32 ∷ [])) h → HasVersion h2 (Some 0x32)
    renewed written = on_told h2 (λ all. slice_get all 7 ≡ Some 0x32) (λ c now.
        let was = both_told h h2 told c now in
        let same : overlaid was.0 7 (0x32 ∷ []) ≡ c =
        same_Some (overlaid was.0 7 (0x32 ∷ [])) c (sym (ap (option_map (λ all. overlaid all 7 (0x32 ∷ []))) was.1) ∙ sym written ∙ now) in
        ap (λ (l : List ℕ). slice_get l 7) (sym same ∙ ap (λ (l : List ℕ). overlaid l 7 (0x32 ∷ [])) (rests was.0 was.1).image.bytes_are))

-- nothing is told of a byte that isn't known
pub unknown : (h : Option (List ℕ)) → HasVersion h None
unknown h = on_told h (λ _. ⊤) (λ _ _. tt)
