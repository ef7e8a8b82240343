-- At most 9 bytes stand for the empty list, whatever they are.
use Rattle.std.proofs.Common.{◌≡◌, ◌≢◌, inl, inr, ℕ, ◌≤◌, List, [], ◌∷◌, ◌++◌, length, take, drop, refl, sym, ◌∙◌, ap, subst, arith, length-drop, take-append-drop, Some, None}
use Rattle.std.specs.Prelude.{Bool, true, false, nat_eq, option_map}
use Rattle.std.specs.declared.option.Option.{Option}
use Rattle.std.specs.Cmp.Lexicographic.{pointwise, same_text, other_text}
use Rattle.std.proofs.lemmas.Bool.{cases_eq}
use Rattle.std.proofs.lemmas.Option.{none-some, same_Some}
use Rattle.xfs_base.specs.Causes.{IfTold}
use Rattle.xfs_disk.specs.Disk.{overlaid, Only}
use Rattle.xfs_journal.specs.Gate.{MayBecome}
use Rattle.xfs_journal.specs.Image.{IsImage, StandsFor, end_of, framed, magic}
use Rattle.xfs_journal.specs.JournalView.{HasVersion, IsAtRest, IsKept}
use Rattle.xfs_journal.specs.Paging.{IsOldOrShort}
use Rattle.xfs_journal.specs.declared.record.Rec.{Rec}
use Rattle.xfs_journal.proofs.Appended.{only_spares}
use Rattle.xfs_journal.proofs.Ceasing.{no_image, short_empty}
use Rattle.xfs_journal.proofs.Told.{on_told, from_told}

no_record : (rest : List ℕ) → rest ≡ [] → (r : Rec) → (more : List ℕ) → rest ≢ framed r ++ more
no_record rest none r more same = absurd (omega (arith, ap length none, ap length same))

behind_version : (c : List ℕ) (v : ℕ) (rest : List ℕ) → c ≡ magic ++ v ∷ rest → length rest ≤ 1 → StandsFor c []
behind_version c v [] is le = inr (refl, omega (arith, ap length is), no_image c 8 (inr (v, [], [], tt, is, inl refl, refl)))
behind_version c v (g ∷ rest) is le = elim (cases_eq g 1) [
  | inl open_gate ↦ inr (refl, omega (arith, ap length is, le), no_image c 8 (inr (v, [], g ∷ rest, tt, is, inr (rest, ap (λ k. k ∷ rest) open_gate, λ r of_table. no_record rest (empty g rest le) r), refl)))
  | inr shut ↦ inl (record { of_table = tt; version = v; gate = g; rest = rest; closed = shut; bytes_are = is })
]
  where
    empty : (g : ℕ) (l : List ℕ) → length (g ∷ l) ≤ 1 → l ≡ []
    empty g [] few = refl
    empty g (x ∷ xs) few = absurd (omega (arith, few))

behind_magic : (c more : List ℕ) → c ≡ magic ++ more → length more ≤ 2 → StandsFor c []
behind_magic c [] is le = inr (refl, omega (arith, ap length is), no_image c 0 (inl (inr (omega (arith, ap length is)), refl)))
behind_magic c (v ∷ rest) is le = behind_version c v rest is (omega (arith, le))

pub short_stands : (c : List ℕ) → length c ≤ 9 → StandsFor c []
short_stands c short = by_magic (pointwise nat_eq (take 7 c) magic) refl
  where
    by_magic : (b : Bool) → b ≡ pointwise nat_eq (take 7 c) magic → StandsFor c []
    by_magic true same = behind_magic c (drop 7 c) (sym (take-append-drop 7 c) ∙ ap (λ (l : List ℕ). l ++ drop 7 c) (same_text (take 7 c) magic same)) (omega (arith, length-drop 7 c, short))
    by_magic false other = inr (refl, short, no_image c 0 (inl (inl (other_text (take 7 c) magic other), refl)))

-- after the write of an empty journal over at most 9 bytes
pub emptied : (all : List ℕ) → IsImage (overlaid all 0 (magic ++ 0x32 ∷ 0 ∷ [])) []
emptied all = record { of_table = tt; version = 0x32; gate = 0; rest = drop 9 all; closed = λ e. absurd (omega (arith, e)); bytes_are = refl }

pub torn_short : (images : List ℕ → Type 0) (all : List ℕ) → length all ≤ 9 → Only all images → (c : List ℕ) → MayBecome images 0 9 c → length c ≤ 9
torn_short images all short only c (d, was, torn) = omega (arith, short, torn.no_longer, ap length (only d was))

pub kept_empty : (h h2 : Option (List ℕ)) (images2 : List ℕ → Type 0) → h2 ≡ option_map (λ all. overlaid all 0 (magic ++ 0x32 ∷ 0 ∷ [])) h → IfTold h2 (λ all. Only all images2) → IsKept h2 images2 [] false 8
kept_empty h h2 images2 written durable = record {
  place = on_told h2 (λ _. 8 ≡ end_of []) (λ _ _. refl);
  small = omega arith;
  of_table = tt;
  at_rest = λ _. on_told h2 (IsAtRest images2 []) (λ c now.
      let image = image_of h c (sym written ∙ now) in
      record { image = image; durable = only_spares [] c image images2 (from_told h2 (λ all. Only all images2) durable c now) });
}
  where
    image_of : (h : Option (List ℕ)) (c : List ℕ) → option_map (λ all. overlaid all 0 (magic ++ 0x32 ∷ 0 ∷ [])) h ≡ Some c → IsImage c []
    image_of None c same = absurd (none-some c same)
    image_of (Some all) c same = subst (λ (l : List ℕ). IsImage l []) (same_Some (overlaid all 0 (magic ++ 0x32 ∷ 0 ∷ [])) c same) (emptied all)

pub version_empty : (h h2 : Option (List ℕ)) → h2 ≡ option_map (λ all. overlaid all 0 (magic ++ 0x32 ∷ 0 ∷ [])) h → HasVersion h2 (Some 0x32)
version_empty None h2 written = subst (λ (o : Option (List ℕ)). HasVersion o (Some 0x32)) (sym written) tt
version_empty (Some all) h2 written = subst (λ (o : Option (List ℕ)). HasVersion o (Some 0x32)) (sym written) refl

-- one of the old images, or at most 9 bytes where the file had no more, stands for the list that each old image stands for
pub settles : (images : List ℕ → Type 0) (all : List ℕ) (J : List Rec) → images all → ((c : List ℕ) → images c → StandsFor c J) → (c : List ℕ) → IsOldOrShort images all c → StandsFor c J
settles images all J here each c (inl was) = each c was
settles images all J here each c (inr (short, few)) = subst (λ (l : List Rec). StandsFor c l) (sym (short_empty all J short (each all here))) (short_stands c few)
