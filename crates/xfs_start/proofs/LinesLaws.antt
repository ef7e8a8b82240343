-- The lines of a text, as they are read.
use Rattle.std.proofs.Common.{◌≡◌, ◌∙◌, ℕ, zero, suc, ◌<◌, List, [], ◌∷◌, ap, refl, arith, length, get_or, Some}
use Rattle.std.specs.Prelude.{map, slice_get}
use Rattle.std.specs.Borrow.{Bor}
use Rattle.std.specs.List.{slice_split}
use Rattle.xfs_script.specs.Lines.{is_line_feed, without_return}
use Rattle.xfs_start.specs.BenchFile.{lines}

shown : (pieces : List (Bor (List ℕ))) → map (λ piece. without_return piece.now) pieces ≡ map without_return (map (λ piece. piece.now) pieces)
shown [] = refl
shown (p ∷ ps) = ap (λ l. without_return p.now ∷ l) (shown ps)

pub lines_shown : (pieces : List (Bor (List ℕ))) (text : List ℕ) → map (λ piece. piece.now) pieces ≡ slice_split is_line_feed text → map (λ piece. without_return piece.now) pieces ≡ lines text
lines_shown pieces text is = shown pieces ∙ ap (map without_return) is

pub there : {A B : Type 0} (g : A → B) (xs : List A) (i : ℕ) (d : A) → i < length xs → slice_get (map g xs) i ≡ Some (g (get_or xs i d))
there g [] i d lt = absurd (omega (arith, lt))
there g (x ∷ xs) zero d lt = refl
there g (x ∷ xs) (suc i) d lt = there g xs i d (omega (arith, lt))
