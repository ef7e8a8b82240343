use Rattle.xfs_client.proofs.Hearings.{known_of}
use Rattle.xfs_client.proofs.laws.desks_know_what_they_hear.Goals as goal

pub returns : goal.returns
returns c = λ h frame next. known_of h next.texts next.unread next.before next.later frame next.pending next.hears next.talk
