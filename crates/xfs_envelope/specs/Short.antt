-- The text of a command that says nothing but its name and its id, in four forms: without a version or with 2.0, and without a payload or with an empty one.
use Rattle.std.specs.Prelude.{◌≡◌, ◌++◌, ◌⊎◌, ℕ, List, codes, decimal}

-- what stands behind the type, in each of the four
abbrev pub IsShortEnd : List ℕ → Type 0
IsShortEnd end = (end ≡ codes "}}") ⊎ ((end ≡ codes "},\"payload\":{}}") ⊎ ((end ≡ codes ",\"version\":\"2.0\"}}") ⊎ (end ≡ codes ",\"version\":\"2.0\"},\"payload\":{}}")))

abbrev pub short_text : List ℕ → ℕ → List ℕ → List ℕ
short_text name id end = codes "{\"header\":{\"name\":\"" ++ (name ++ (codes "\",\"requestId\":" ++ (decimal id ++ (codes ",\"type\":\"command\"" ++ end))))
