use Rattle.xfs_guard.proofs.ClaimLaws.{spelled-long}
use Rattle.xfs_guard.proofs.guard.Guard.admits.Goals as goal

pub due-due-requires : goal.due-due-requires
due-due-requires g c = spelled-long c.args.token.now c.args.bytes.now c.requires.spelled
