use Rattle.xfs_model.proofs.Fulfilling.{successes_move_all}
use Rattle.xfs_model.proofs.successes_move_all_notes.Goals as goal

pub returns : goal.returns
returns c = λ start t sound s new event answer since is. successes_move_all start s new t event answer sound since is
