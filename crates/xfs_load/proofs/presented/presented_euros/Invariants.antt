use Rattle.std.proofs.Common.{◌≡◌, ◌≤◌, ◌*◌, take, fold, false}
use Rattle.std.specs.Prelude.{◌^◌}
use Rattle.xfs_load.specs.Summaries.{presented_after}
use Rattle.xfs_load.proofs.presented.presented_euros.Given as goal

abbrev pub invariant-loop-entry : goal.invariant-loop-entry
invariant-loop-entry l = record {
  presented : l.presented ≡ fold (presented_after l.units) (record { ordered = false; worth = 0 }) (take l.entry-index l.records);
  small : l.presented.worth ≤ 2 ^ 65 * l.entry-index;
}
