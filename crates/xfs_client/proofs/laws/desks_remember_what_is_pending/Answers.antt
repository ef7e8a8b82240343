use Rattle.xfs_client.proofs.Hearings.{remembered_of}
use Rattle.xfs_client.proofs.laws.desks_remember_what_is_pending.Goals as goal

pub returns : goal.returns
returns c = λ d texts unread pending all. remembered_of all.history texts unread all.frames pending d all.hears all.talk all.keeps
