-- What was presented since the last mark, by the Done records that follow an order to present.
use Rattle.std.specs.Prelude.{ℕ, ◌+◌, List, fold, Some, None, if◌then◌else◌}
use Rattle.std.specs.declared.option.Option.{Option}
use Rattle.xfs_base.specs.declared.counts.Counts.{Counts}
use Rattle.xfs_base.specs.declared.money.NoteKind.{NoteKind}
use Rattle.xfs_base.specs.declared.counts.Kind.TheVariants.{Stack, Present}
use Rattle.xfs_base.specs.Money.{value}
use Rattle.xfs_journal.specs.declared.record.Rec.{Rec}
use Rattle.xfs_journal.specs.declared.record.Rec.TheVariants.{Order, Done}
use Rattle.xfs_journal.specs.Journal.{is_mark}
use Rattle.xfs_guard.specs.declared.open.Open.{Open}
use Rattle.xfs_guard.specs.declared.open.Open.TheVariants.{Written, Acted}

-- the record before, and what was presented since the last mark
pub record Paid : Type 0 where
  pub last : Option Rec
  pub worth : ℕ

abbrev pub done_worth : List NoteKind → List ℕ → Option Rec → Counts → ℕ
done_worth units currency (Some (Order Present counts)) moved = value units moved currency
done_worth units currency before moved = 0

abbrev pub worth_after : List NoteKind → List ℕ → Paid → Rec → ℕ
worth_after units currency p (Done moved diverted) = p.worth + done_worth units currency p.last moved
worth_after units currency p r = if is_mark r then 0 else p.worth

abbrev pub paid_after : List NoteKind → List ℕ → Paid → Rec → Paid
paid_after units currency p r = record { last = Some r; worth = worth_after units currency p r }

-- what was presented in a currency since the last mark, in thousandths
abbrev pub presented_in : List NoteKind → List Rec → List ℕ → ℕ
presented_in units records currency = (fold (paid_after units currency) (record { last = None; worth = 0 }) records).worth

-- what a written order to stack will add to the transport, at most
abbrev pub pending : List NoteKind → Open → List ℕ → ℕ
pending units (Written Stack counts) currency = value units counts currency
pending units o currency = 0

-- what an order to present put out that has no done record yet
abbrev pub unsettled : List NoteKind → Open → List ℕ → ℕ
unsettled units (Acted Present moved diverted failed) currency = value units moved currency
unsettled units o currency = 0
