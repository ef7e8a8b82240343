-- Money: an amount is a whole number of thousandths of a currency's unit, and a note of value v counts 1000 * v.
use Rattle.std.specs.Prelude.{ℕ, zero, suc, ◌+◌, ◌*◌, List, [], ◌∷◌, slice_index, slice_get, None, if◌then◌else◌}
use Rattle.std.specs.declared.option.Option.{Option}
use Rattle.std.specs.Str.{bytes_eq}
use Rattle.xfs_base.specs.declared.counts.Counts.{Counts}
use Rattle.xfs_base.specs.declared.money.NoteKind.{NoteKind}

-- the kind of a unit, which counts from 1
abbrev pub kind_of : List NoteKind → ℕ → Option NoteKind
kind_of units zero = None
kind_of units (suc i) = slice_get units i

-- what a count of one unit's notes is worth in a currency
abbrev pub value_at : NoteKind → ℕ → List ℕ → ℕ
value_at kind count currency = if bytes_eq kind.currency currency then 1000 * kind.value * count else 0

-- the sum of that over the units from i on, whose kinds these are
abbrev pub value_from : List NoteKind → ℕ → List ℕ → List ℕ → ℕ
value_from [] i counts currency = 0
value_from (k ∷ ks) i counts currency = value_at k (slice_index counts i) currency + value_from ks (i + 1) counts currency

-- what counts of notes are worth in a currency: the sum over the units of the table
abbrev pub value : List NoteKind → Counts → List ℕ → ℕ
value units counts currency = value_from units 0 counts.0 currency
