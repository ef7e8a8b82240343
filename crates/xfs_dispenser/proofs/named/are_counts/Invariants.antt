use Rattle.std.proofs.Common.{◌≡◌}
use Rattle.serde_json.specs.View.{members_view}
use Rattle.xfs_dispenser.specs.Named.{are_counts}
use Rattle.xfs_dispenser.proofs.named.are_counts.Given as goal

abbrev pub invariant-loop-value : goal.invariant-loop-value
invariant-loop-value l = are_counts (members_view l.value-iterator) ≡ are_counts (members_view l.members.entries)
