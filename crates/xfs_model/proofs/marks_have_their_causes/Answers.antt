use Rattle.xfs_model.proofs.Marks.{marks}
use Rattle.xfs_model.proofs.marks_have_their_causes.Goals as goal

pub returns : goal.returns
returns c = λ old new event answer is. marks old new event answer is
