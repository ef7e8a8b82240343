use Rattle.std.proofs.Common.{◌≡◌, ℕ, ◌≤◌, List, length, replicate}
use Rattle.xfs_script.specs.Fields.{parts}
use Rattle.xfs_script.proofs.Parts.{parts_left, size_left}
use Rattle.xfs_script.proofs.UnitParts.{SpellsOn}
use Rattle.xfs_script.proofs.counts_field.read_counts.Given as goal

abbrev pub invariant-loop-rest : goal.invariant-loop-rest
invariant-loop-rest l = record {
  to : (all : List ℕ) → SpellsOn l.last l.counts (parts_left l.rest) all → SpellsOn 0 (replicate 8 0) (parts l.fn.text) all;
  from : (all : List ℕ) → SpellsOn 0 (replicate 8 0) (parts l.fn.text) all → SpellsOn l.last l.counts (parts_left l.rest) all;
  long : length l.counts ≡ 8;
  within : l.last ≤ 8;
}

abbrev pub decreases-loop-rest : goal.decreases-loop-rest
decreases-loop-rest l = size_left l.rest
