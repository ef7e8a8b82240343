-- The units of which there are notes.
use Rattle.std.specs.Prelude.{ℕ, List, length, filter, map, nat_lt, zip}
use Rattle.std.specs.List.{range_with_len}
use Rattle.xfs_base.specs.declared.money.NoteKind.{NoteKind}

-- each unit of which there are notes, units rising from one on, and how many
abbrev pub units_with : List ℕ → List (ℕ × ℕ)
units_with counts = filter (λ (u : ℕ × ℕ). nat_lt 0 u.1) (zip (range_with_len 1 (length counts)) counts)

-- the kinds of these units
abbrev pub kinds_with : List NoteKind → List ℕ → List NoteKind
kinds_with units counts = map (λ (k : NoteKind × ℕ). k.0) (filter (λ (k : NoteKind × ℕ). nat_lt 0 k.1) (zip units counts))
