use Rattle.xfs_acceptance_serving.proofs.bench.boot.Goals as goal

pub boot-requires-clause-recorded : goal.boot-requires-clause-recorded
boot-requires-clause-recorded c = λ records may. c.requires.starts.recorded may.bytes may.left records may.stands
