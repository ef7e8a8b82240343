use Rattle.std.proofs.Common.{sym}
use Rattle.xfs_cli.proofs.WithTokenLaws.{filled_rest}
use Rattle.xfs_cli.proofs.commands.replay.verbs.message_with.Goals as goal

pub returns-in-None : goal.returns-in-None
returns-in-None c = sym (filled_rest c.args.token.now c.args.message.now c.in-None.ensures)
