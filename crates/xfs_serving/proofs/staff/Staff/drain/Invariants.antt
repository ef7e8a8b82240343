use mathlib.Core.List.{IsPrefix}
use Rattle.xfs_serving.proofs.staff.Staff.drain.Given as goal

-- what was seen is not taken back
abbrev pub invariant-loop : goal.invariant-loop
invariant-loop g l = IsPrefix (g.H.Backend.seen l.initial.self.backend) (g.H.Backend.seen l.self.backend)
