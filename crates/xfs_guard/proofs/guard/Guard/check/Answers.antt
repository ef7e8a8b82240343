use Rattle.std.proofs.Common.{arith}
use Rattle.xfs_guard.proofs.ClaimLaws.{spelled-long}
use Rattle.xfs_guard.proofs.guard.Guard.check.Goals as goal

pub text_of-requires-clause-low : goal.text_of-requires-clause-low
text_of-requires-clause-low g c = omega (arith, spelled-long c.in-Ok.parts c.args.token.now c.in-Ok.ensures.ok)
