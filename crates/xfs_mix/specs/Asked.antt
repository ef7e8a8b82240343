-- Counts of notes are refused as empty, as too many, or by the first unit that has too few, in this order.
use Rattle.std.specs.Prelude.{ℕ, ◌+◌, ◌==◌, nat_lt, not, Bool, List, length, drop, sum, zip, position, option_map, Some, if◌then◌else◌}
use Rattle.std.specs.List.{list_all}
use Rattle.std.specs.declared.option.Option.{Option}
use Rattle.xfs_base.specs.declared.counts.Counts.{Counts}
use Rattle.xfs_base.specs.declared.money.NoteKind.{NoteKind}
use Rattle.xfs_mix.specs.declared.asked.CountFault.{CountFault}
use Rattle.xfs_mix.specs.declared.asked.CountFault.TheVariants.{Empty, TooMany, Short}

-- there are no notes
abbrev pub is_none : List ℕ → Bool
is_none counts = list_all (λ count. count == 0) counts

-- the place, from 0, of the first unit that holds fewer notes than are asked
abbrev pub first_short : Counts → Counts → Option ℕ
first_short have counts = position (λ p. nat_lt p.0 p.1) (zip have.0 counts.0)

-- the first of the refusals that applies
abbrev pub count_fault : List NoteKind → Counts → Counts → Option CountFault
count_fault units have counts =
    if is_none counts.0 then Some Empty
    else if not (is_none (drop (length units) counts.0)) then Some Empty
    else if nat_lt 60 (sum counts.0) then Some TooMany
    else option_map (λ at. Short (at + 1)) (first_short have counts)
