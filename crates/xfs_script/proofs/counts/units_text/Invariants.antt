use Rattle.std.proofs.Common.{◌≡◌, take}
use Rattle.xfs_script.specs.Counts.{joined_units, filled_units}
use Rattle.xfs_script.proofs.counts.units_text.Given as goal

abbrev pub invariant-loop-count : goal.invariant-loop-count
invariant-loop-count l = record {
  unit : l.unit ≡ l.count-index;
  text : l.text.items ≡ joined_units (filled_units 1 (take l.count-index l.counts));
}
