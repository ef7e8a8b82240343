use Rattle.std.proofs.lemmas.Result.{IfOk-weaker, IfErr-weaker}
use Rattle.xfs_client.specs.History.{told as tells, told_in}
use Rattle.xfs_client.specs.Hearings.{told}
use Rattle.xfs_client.proofs.Hearings.{known_of, only_memory}
use Rattle.xfs_client.proofs.hearing.hear.Goals as goal

pub returns-clause-known : goal.returns-clause-known
returns-clause-known c = IfErr-weaker c.hear.result _ _ (λ e refused h keeps next.
    let known = known_of h next.texts next.unread next.before next.later c.args.frame.now next.pending next.hears next.talk in
    only_memory (told_in h c.args.frame.now) known.0 e known.1 (λ other. refused other h keeps)) c.hear.ensures.refused

pub returns-clause-hearing : goal.returns-clause-hearing
returns-clause-hearing c = IfOk-weaker c.hear.result _ _ (λ a is h texts heard keeps hearing. told hearing c.args.frame.now (tells a) (is h keeps)) c.hear.ensures.ok
