use Rattle.std.proofs.Common.{◌≡◌, ◌+◌, ◌≤◌, take}
use Rattle.std.specs.Prelude.{fold}
use Rattle.xfs_journal.specs.Journal.{Walk, CarriesNumber, next_number}
use Rattle.xfs_audit.proofs.numbering.is_numbered.Given as goal

-- the records before this one carry their numbers
abbrev pub invariant-loop-entry : goal.invariant-loop-entry
invariant-loop-entry l = record {
  kept : Walk next_number CarriesNumber 1 (take l.entry-index l.records);
  next : l.next ≡ fold next_number 1 (take l.entry-index l.records);
  small : l.next ≤ l.entry-index + 1;
}
