-- Lines that are skipped: those that are empty, and comments.
use Rattle.std.specs.Prelude.{◌≡◌, ℕ, List, [], ◌∷◌}

abbrev pub IsSkipped : List ℕ → Type 0
IsSkipped [] = Unit {0}
IsSkipped (first ∷ rest) = first ≡ 35
