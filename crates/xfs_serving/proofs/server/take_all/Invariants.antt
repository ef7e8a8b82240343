use Rattle.std.proofs.Common.{◌≡◌, ◌≤◌, ℕ}
use mathlib.Core.List.{IsPrefix}
use Rattle.xfs_serving.specs.Takings.{passed}
use Rattle.xfs_serving.proofs.server.take_all.Given as goal

-- so many connections came of those that are to come, and what was seen is not taken back
abbrev pub invariant-loop : goal.invariant-loop
invariant-loop g l =
    (l.taken ≤ l.count) × ((quiets : ℕ) × (g.O.Doors.log l.doors ≡ passed l.taken quiets 0 (g.O.Doors.log l.initial.doors)))
    × IsPrefix (g.H.Backend.seen l.initial.staff.backend) (g.H.Backend.seen l.staff.backend)
