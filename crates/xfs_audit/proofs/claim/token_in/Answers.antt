use Rattle.xfs_audit.proofs.Claiming.{one-token}
use Rattle.xfs_audit.proofs.claim.token_in.Goals as goal

pub returns-then-not-carries : goal.returns-then-not-carries
returns-then-not-carries c = λ token has. let not = c.if-not-carries.ensures.1 (one-token c.args.key.now c.args.nonce.now c.args.text.now c.in-Ok.token token c.in-Ok.ensures.ok has) in cc
