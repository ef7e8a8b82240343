use Rattle.std.proofs.Common.{◌≡◌, ◌≤◌, drop, length}
use Rattle.std.specs.Prelude.{fold}
use Rattle.serde_json.specs.View.{members_view}
use Rattle.xfs_dispenser.specs.Denominations.{currencies_of, with_currency}
use Rattle.xfs_dispenser.specs.Units.{kinds_with}
use Rattle.xfs_dispenser.proofs.payload.currencies_of.Given as goal

abbrev pub invariant-loop-at : goal.invariant-loop-at
invariant-loop-at l = record {
  long : length l.counts.0 ≡ 8;
  few : length l.units ≤ 8;
  listed : fold (with_currency l.units l.counts) (members_view l.members.entries) (kinds_with (drop l.at l.units) (drop l.at l.counts.0)) ≡ currencies_of l.units l.counts;
}
