use Rattle.std.proofs.Common.{drop}
use Rattle.std.specs.List.{AllByRecursion}
use Rattle.xfs_guard.specs.Agrees.{IsAsked}
use Rattle.xfs_audit.proofs.agreement.are_asked.Given as goal

-- all are asked for where the rest are
abbrev pub invariant-loop-entry : goal.invariant-loop-entry
invariant-loop-entry l = record {
  on : AllByRecursion (IsAsked l.records) (drop l.entry-index l.motions) → AllByRecursion (IsAsked l.records) l.motions;
  back : AllByRecursion (IsAsked l.records) l.motions → AllByRecursion (IsAsked l.records) (drop l.entry-index l.motions);
}
