use Rattle.std.proofs.Common.{◌≡◌, ◌≤◌, ◌*◌, sum, take}
use Rattle.xfs_base.proofs.counts.Counts.notes.Given as goal

abbrev pub invariant-loop-count : goal.invariant-loop-count
invariant-loop-count l = record { sum : l.total ≡ sum (take l.count-index l.self.0); small : l.total ≤ l.count-index * 4294967295 }
