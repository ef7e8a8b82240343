use Rattle.xfs_audit.specs.Conversing.{pending_ids}
use Rattle.xfs_audit.proofs.Choosing.{fits-where-it-converses}
use Rattle.xfs_audit.proofs.Hearing.{converses}
use Rattle.xfs_audit.proofs.lawful.conversations_fit.Goals as goal

pub returns : goal.returns
returns c = λ texts frames pending talk. fits-where-it-converses (pending_ids pending) texts frames (converses texts frames pending talk)
