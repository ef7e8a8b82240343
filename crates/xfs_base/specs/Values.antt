-- The form of a currency's code and of a note's value.
use Rattle.std.specs.Prelude.{◌≡◌, ℕ, ◌≤◌, List, length, All}

-- three letters A to Z
abbrev pub IsCurrency : List ℕ → Type 0
IsCurrency bytes = (length bytes ≡ 3) × All (λ b. (65 ≤ b) × (b ≤ 90)) bytes

-- the value of a note is from 1 to 1,000,000
abbrev pub IsNoteValue : ℕ → Type 0
IsNoteValue v = (1 ≤ v) × (v ≤ 1000000)
