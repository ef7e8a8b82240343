-- What no customer is offered.
use Rattle.std.specs.Prelude.{◌≤◌, ◌<◌, ℕ, List, sum}
use Rattle.xfs_base.specs.declared.counts.Counts.{Counts}
use Rattle.xfs_base.specs.declared.money.NoteKind.{NoteKind}
use Rattle.xfs_mix.specs.Mix.{IsMix}

-- an amount from 1 to 1,000,000 has no mix of at most 60 notes
abbrev pub TakesTooMany : List NoteKind → Counts → List ℕ → ℕ → Type 0
TakesTooMany units have currency amount = 1 ≤ amount → amount ≤ 1000000 → (notes : Counts) → IsMix units have currency amount notes → 60 < sum notes.0
