-- What the first eight bytes say of a file.
use Rattle.std.proofs.Common.{◌≡◌, ◌≢◌, ℕ, List, [], ◌∷◌, ◌++◌, length, take, drop, sym, ◌∙◌, ap, arith, append_assoc, length-append, take-append-drop, take_at}
use Rattle.xfs_journal.specs.Image.{magic}

-- seven bytes and a version were read
module _ (all read front : List ℕ) (v : ℕ) (is : read ≡ take (length read) all) (count : length read ≡ 8) (split : read ≡ front ++ v ∷ []) where
  whole : all ≡ front ++ v ∷ drop 8 all
  whole = sym (take-append-drop 8 all) ∙ ap (λ (l : List ℕ). l ++ drop 8 all) (ap (λ (n : ℕ). take n all) (sym count) ∙ sym is ∙ split) ∙ append_assoc front (v ∷ []) (drop 8 all)

  pub first_seven : take 7 all ≡ front
  first_seven = ap (λ (l : List ℕ). take 7 l) whole ∙ take_at front (v ∷ drop 8 all) 7 (omega (arith, count, ap length split, length-append front (v ∷ [])))

  pub begun : front ≡ magic → all ≡ magic ++ v ∷ drop 8 all
  begun same = whole ∙ ap (λ (l : List ℕ). l ++ v ∷ drop 8 all) same

  pub unbegun : front ≢ magic → take 7 all ≢ magic
  unbegun other same = other (sym first_seven ∙ same)
