use Rattle.std.proofs.Common.{refl}
use Rattle.xfs_token.specs.Amounts.{amount_in}
use Rattle.xfs_audit.proofs.claim.Claim.amount_allowed.Goals as goal

pub returns-in-None : goal.returns-in-None
unfolding amount_in
returns-in-None c = rw c.in-None.is refl
