use Rattle.serde_json.specs.View.{members_view}
use Rattle.xfs_units.specs.Payloads.{AllAdded}
use Rattle.xfs_units.proofs.added.are_all_added.Given as goal

abbrev pub invariant-loop-unit : goal.invariant-loop-unit
invariant-loop-unit l = record {
  enough : AllAdded (members_view l.unit-iterator) → AllAdded (members_view l.units.entries);
  needed : AllAdded (members_view l.units.entries) → AllAdded (members_view l.unit-iterator);
}
