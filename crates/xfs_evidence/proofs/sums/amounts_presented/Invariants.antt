use Rattle.std.proofs.Common.{[]}
use Rattle.std.specs.Prelude.{unwrap_or}
use Rattle.xfs_evidence.specs.Sums.{AreSumsTo, left_behind}
use Rattle.xfs_evidence.proofs.sums.amounts_presented.Given as goal

-- all currencies up to the last one are told
abbrev pub invariant-currencies : goal.invariant-currencies
invariant-currencies l = AreSumsTo l.units l.segment l.last (unwrap_or l.told [])

abbrev pub decreases-currencies : goal.decreases-currencies
decreases-currencies l = left_behind l.units l.last
