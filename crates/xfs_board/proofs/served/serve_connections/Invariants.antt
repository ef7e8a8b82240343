use Rattle.xfs_board.proofs.served.serve_connections.Given as goal

-- the lock that was opened
abbrev pub ghosts-serve_at : goal.ghosts-serve_at
ghosts-serve_at g a = record { lock = a.turn.now }
