use Rattle.xfs_cli.proofs.WordLaws.{no-command}
use Rattle.xfs_cli.proofs.words.command_of.Goals as goal

pub returns-in-Err-Usage-clause-none : goal.returns-in-Err-Usage-clause-none
returns-in-Err-Usage-clause-none c = no-command c.args.words.now (c.in-Err-Usage.ensures.usage c.in-Err-Usage.field-0-is)
