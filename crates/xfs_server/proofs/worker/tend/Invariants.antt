use Rattle.std.proofs.Common.{ℕ}
use Rattle.xfs_server.specs.Workers.{Rounds, Between}
use Rattle.xfs_server.proofs.worker.tend.Given as goal

abbrev pub invariant-loop : goal.invariant-loop
invariant-loop g l = (rounds : ℕ) × Rounds rounds Between (g.W.Watch.coming l.initial.watch) (g.W.Watch.coming l.watch) (g.W.Watch.faults l.initial.watch) (g.W.Watch.faults l.watch) (g.B.Tended.log l.initial.board) (g.B.Tended.log l.board)
