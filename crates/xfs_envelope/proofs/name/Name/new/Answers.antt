use Rattle.xfs_envelope.proofs.NameLaws.{not_a_name}
use Rattle.xfs_envelope.proofs.name.Name.new.Goals as goal

pub returns-in-Err-clause-form : goal.returns-in-Err-clause-form
returns-in-Err-clause-form c = λ _. not_a_name _ c.in-Err.ensures.cases.0
