use Rattle.xfs_acceptance_serving.proofs.lock.told_at_lock.Given as goal

abbrev pub ghosts-told_by_callers : goal.ghosts-told_by_callers
ghosts-told_by_callers g a = record { lock = a.turn.now }
