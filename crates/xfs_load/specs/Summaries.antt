-- The summary of a load: its rounds, what its Done records say was presented, how many rounds were refused, and how many records it wrote.
use Rattle.std.specs.Prelude.{◌≡◌, ◌+◌, ◌-◌, ◌/◌, ◌++◌, ℕ, List, true, false, codes, decimal, drop, fold, length, if◌then◌else◌}
use Rattle.xfs_base.specs.declared.counts.Kind.TheVariants as kind
use Rattle.xfs_base.specs.declared.money.NoteKind.{NoteKind}
use Rattle.xfs_base.specs.Money.{value}
use Rattle.xfs_journal.specs.declared.record.Rec.{Rec}
use Rattle.xfs_journal.specs.declared.record.Rec.TheVariants.{Order, Done}
use Rattle.xfs_model.specs.State.{State}
use Rattle.xfs_load.specs.Generator.{Client}
use Rattle.xfs_load.specs.Plays.{PlaysRounds}
use Rattle.xfs_load.specs.declared.summary.Summary.{Summary}
use Rattle.xfs_load.specs.declared.presented.Presented.{Presented}

-- a Done record tells what an order before it moved: of an order to present, what was put out
abbrev pub presented_after : List NoteKind → Presented → Rec → Presented
presented_after units p (Order kind.Present counts) = record { ordered = true; worth = p.worth }
presented_after units p (Done moved diverted) = record { ordered = false; worth = if p.ordered then p.worth + value units moved (codes "EUR") else p.worth }
presented_after units p r = record { ordered = false; worth = p.worth }

-- what the Done records behind orders to present say was put out in EUR, in thousandths
abbrev pub presented_euros : List NoteKind → List Rec → ℕ
presented_euros units records = (fold (presented_after units) (record { ordered = false; worth = 0 }) records).worth

-- the summary of rounds, with those that were refused and the records that were written
abbrev pub summary_of : ℕ → ℕ → List NoteKind → List Rec → Summary
summary_of rounds refused units written = record { rounds = rounds; presented = presented_euros units written / 1000; refused = refused; records = length written }

-- rounds are played from a boot on, and summed up of what the client heard and of the records from the boot record on
pub record IsSummary (key : List ℕ) (rounds : ℕ) (s new : State) (summary : Summary) : Type 0 where
  pub client : Client
  pub plays : PlaysRounds key rounds s client new
  pub is : summary ≡ summary_of rounds client.refused s.seen.guard.units (drop (length s.seen.guard.records - 1) new.seen.guard.records)

-- the line that tells a summary
abbrev pub summary_line : Summary → List ℕ
summary_line s =
    codes "rounds " ++ decimal s.rounds ++ codes " presented EUR " ++ decimal s.presented ++ codes " refused " ++ decimal s.refused ++ codes " records " ++ decimal s.records
