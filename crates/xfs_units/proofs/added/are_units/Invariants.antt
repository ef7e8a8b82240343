use Rattle.serde_json.specs.View.{members_view}
use Rattle.xfs_units.specs.Payloads.{AreUnits}
use Rattle.xfs_units.proofs.added.are_units.Given as goal

abbrev pub invariant-loop-name : goal.invariant-loop-name
invariant-loop-name l = record {
  enough : AreUnits (members_view l.name-iterator) → AreUnits (members_view l.units.entries);
  needed : AreUnits (members_view l.units.entries) → AreUnits (members_view l.name-iterator);
}
