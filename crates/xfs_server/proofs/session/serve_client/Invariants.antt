use Rattle.xfs_server.specs.Sessions.{Turns}
use Rattle.xfs_server.proofs.session.serve_client.Given as goal

abbrev pub invariant-loop : goal.invariant-loop
invariant-loop g l = Turns l.counter (g.L.Link.log l.initial.link) (g.L.Link.log l.link) (g.B.Board.log l.initial.board) (g.B.Board.log l.board)
