-- A gate byte behind a prefix of a file, and what is written behind it before it is opened.
use Rattle.std.specs.Prelude.{◌≡◌, ◌≢◌, ◌⊎◌, ℕ, List, ◌∷◌, ◌++◌, take}
use Rattle.std.specs.declared.option.Option.{Option}
use Rattle.xfs_base.specs.Causes.{IfTold}
use Rattle.xfs_disk.specs.Disk.{Only, Torn}

-- a prefix, a gate byte that isn't open, and anything
abbrev pub IsClosed : List ℕ → List ℕ → Type 0
IsClosed prefix c = (gate : ℕ) × (rest : List ℕ) × (gate ≢ 1) × (c ≡ prefix ++ gate ∷ rest)

-- a prefix, an open gate byte, these bytes, and anything
abbrev pub IsOpened : List ℕ → List ℕ → List ℕ → Type 0
IsOpened prefix bytes c = (rest : List ℕ) × (c ≡ prefix ++ 1 ∷ (bytes ++ rest))

-- a disk that told and tells has these bytes behind its gate, which is open, and a crash leaves that
abbrev pub HasOpened : Option (List ℕ) → Option (List ℕ) → (List ℕ → Type 0) → ℕ → List ℕ → Type 0
HasOpened before now images gate bytes = IfTold before (λ old. IfTold now (λ all. IsOpened (take gate old) bytes all × Only all images))

-- the bytes stand behind the gate, or don't
abbrev pub IsEither : List ℕ → List ℕ → List ℕ → Type 0
IsEither prefix bytes c = IsClosed prefix c ⊎ IsOpened prefix bytes c

-- the bytes stand behind the gate of an image, or don't
abbrev pub IsEitherOf : (List ℕ → Type 0) → ℕ → List ℕ → List ℕ → Type 0
IsEitherOf images gate bytes c = (d : List ℕ) × images d × IsEither (take gate d) bytes c

-- what a write of n bytes at an offset may leave of an image
abbrev pub MayBecome : (List ℕ → Type 0) → ℕ → ℕ → List ℕ → Type 0
MayBecome images at n c = (d : List ℕ) × images d × Torn at n d c
