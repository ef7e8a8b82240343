use Rattle.std.proofs.Common.{None, take}
use Rattle.std.specs.Prelude.{fold}
use Rattle.xfs_journal.specs.Journal.{Walk}
use Rattle.xfs_guard.specs.Agrees.{MayFollow, keep_last}
use Rattle.xfs_audit.specs.Told.{IsOrderThere}
use Rattle.xfs_audit.proofs.agreement.is_shaped.Given as goal

-- the records before this one follow one another
abbrev pub invariant-loop-entry : goal.invariant-loop-entry
invariant-loop-entry l = record {
  kept : Walk keep_last MayFollow None (take l.entry-index l.records);
  last : IsOrderThere l.ordered (fold keep_last None (take l.entry-index l.records));
}
