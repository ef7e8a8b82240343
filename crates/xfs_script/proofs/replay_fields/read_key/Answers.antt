use Rattle.xfs_script.proofs.ReplayFields.{no_key}
use Rattle.xfs_script.proofs.replay_fields.read_key.Goals as goal

pub returns-in-Err-clause-none : goal.returns-in-Err-clause-none
returns-in-Err-clause-none c = no_key c.args.text.now c.in_ok-field.field.now c.in_ok-field.ensures.found c.in-Err.ensures.cases.0
