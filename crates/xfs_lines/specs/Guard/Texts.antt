-- What the lines of `guard` are answered: the notes that were moved or taken, and the six places of each unit.
use Rattle.std.specs.Prelude.{ℕ, zero, suc, ◌+◌, Bool, true, false, List, [], ◌∷◌, ◌++◌, codes, decimal, length}
use Rattle.xfs_base.specs.Counts.{at}
use Rattle.xfs_base.specs.declared.counts.Places.{Places}
use Rattle.xfs_mech.specs.declared.motion.Outcome.{Outcome}
use Rattle.xfs_guard.specs.View.{View}
use Rattle.xfs_script.specs.Answered.{lines_text}
use Rattle.xfs_script.specs.Counts.{counts_text}

-- `fault` where the mechanism failed
abbrev pub fault_word : Bool → List ℕ
fault_word true = codes "fault "
fault_word false = []

-- the verb, which is `moved` or `taken`, and the counts of the notes
abbrev pub outcome_text : List ℕ → Outcome → List ℕ
outcome_text verb outcome = fault_word outcome.failed ++ verb ++ codes " " ++ counts_text outcome.moved

-- a count behind a space
abbrev pub count_text : ℕ → List ℕ
count_text count = codes " " ++ decimal count

-- a unit's notes in the units, on the transport, in the outlet, taken, retracted and rejected; units count from 0 here
abbrev pub unit_counts : Places → ℕ → List ℕ
unit_counts p u =
    count_text (at p.units u) ++ count_text (at p.transport u) ++ count_text (at p.outlet u) ++ count_text (at p.taken u) ++ count_text (at p.retracted u)
    ++ count_text (at p.rejected u)

-- the line of a unit
abbrev pub unit_line : Places → ℕ → List ℕ
unit_line p u = codes "unit" ++ decimal (u + 1) ++ unit_counts p u

-- the lines of so many units
abbrev pub show_lines : ℕ → Places → List (List ℕ)
show_lines zero p = []
show_lines (suc u) p = show_lines u p ++ unit_line p u ∷ []

-- the answer to `show`
abbrev pub show_bytes : View → List ℕ
show_bytes v = lines_text (show_lines (length v.units) v.places)
