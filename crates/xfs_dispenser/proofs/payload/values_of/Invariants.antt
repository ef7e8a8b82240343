use Rattle.std.proofs.Common.{◌≡◌, ◌+◌, drop, length}
use Rattle.std.specs.Prelude.{fold}
use Rattle.serde_json.specs.View.{members_view}
use Rattle.xfs_dispenser.specs.Denominations.{values_of, with_count}
use Rattle.xfs_dispenser.proofs.PlanLaws.{units_from}
use Rattle.xfs_dispenser.proofs.payload.values_of.Given as goal

abbrev pub invariant-loop-at : goal.invariant-loop-at
invariant-loop-at l = record {
  long : length l.counts.0 ≡ 8;
  listed : fold with_count (members_view l.members.entries) (units_from (l.at + 1) (drop l.at l.counts.0)) ≡ values_of l.counts.0;
}
