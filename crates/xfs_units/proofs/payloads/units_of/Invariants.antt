use Rattle.std.proofs.Common.{◌≡◌, ◌+◌, ◌≤◌, drop, length}
use Rattle.serde_json.specs.View.{members_view}
use Rattle.xfs_units.specs.Payloads.{units_payload}
use Rattle.xfs_units.proofs.payloads.units_of.Given as goal

abbrev pub invariant-loop-i : goal.invariant-loop-i
invariant-loop-i l = record {
  within : l.i ≤ length l.kinds;
  there : members_view l.members.entries ≡ units_payload (drop l.i l.kinds) (l.i + 1) l.counts;
}
