-- The units of the simulated machine, and where its notes lie at first.
use Rattle.std.specs.Prelude.{List, [], ◌∷◌, codes}
use Rattle.xfs_base.specs.declared.counts.Places.{Places}
use Rattle.xfs_base.specs.declared.money.NoteKind.{NoteKind}
use Rattle.xfs_journal.specs.declared.limits.Limits.{Limits}
use Rattle.xfs_guard.specs.Balance.{no_notes}

-- EUR 10, EUR 20, EUR 50 and USD 20
abbrev pub four_units : List NoteKind
four_units =
    record { currency = codes "EUR"; value = 10 }
    ∷ record { currency = codes "EUR"; value = 20 }
    ∷ record { currency = codes "EUR"; value = 50 }
    ∷ record { currency = codes "USD"; value = 20 }
    ∷ []

-- the limits of a journal of full size
abbrev pub full_limits : Limits
full_limits = record { records = 1000000; bytes = 17179869184 }

-- 100 notes in each of the four units, and none elsewhere
abbrev pub hundred_each : Places
hundred_each = record {
  units = record { 0 = 100 ∷ 100 ∷ 100 ∷ 100 ∷ 0 ∷ 0 ∷ 0 ∷ 0 ∷ [] };
  transport = no_notes;
  outlet = no_notes;
  taken = no_notes;
  retracted = no_notes;
  rejected = no_notes;
}
