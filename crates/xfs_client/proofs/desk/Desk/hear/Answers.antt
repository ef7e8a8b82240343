use Rattle.xfs_client.specs.History.{told}
use Rattle.xfs_client.proofs.Openings.{opened}
use Rattle.xfs_client.proofs.desk.Desk.hear.Goals as goal

pub returns-clause-grown : goal.returns-clause-grown
returns-clause-grown c h keeps = c.in_ok-note.ensures.grown h keeps (opened h c.args.bytes.now (told c.in_ok-heard.heard) (c.in_ok-heard.ensures.ok h keeps))
