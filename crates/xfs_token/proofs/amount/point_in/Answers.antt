use Rattle.std.proofs.Common.{sym}
use Rattle.xfs_token.proofs.AmountReading.{first_is, nowhere_is}
use Rattle.xfs_token.proofs.amount.point_in.Goals as goal

pub returns-in-Some-clause-is : goal.returns-in-Some-clause-is
returns-in-Some-clause-is c = sym (first_is 46 c.args.number.now c.in-Some.place c.in-Some.ensures)

pub returns-in-None-clause-is : goal.returns-in-None-clause-is
returns-in-None-clause-is c = sym (nowhere_is 46 c.args.number.now c.in-None.ensures)
