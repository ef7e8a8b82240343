use Rattle.std.proofs.Common.{◌≡◌}
use Rattle.serde_json.specs.View.{members_view}
use Rattle.xfs_dispenser.specs.Named.{are_units}
use Rattle.xfs_dispenser.proofs.named.are_units.Given as goal

abbrev pub invariant-loop-name : goal.invariant-loop-name
invariant-loop-name l = are_units (members_view l.name-iterator) ≡ are_units (members_view l.members.entries)
