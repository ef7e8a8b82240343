use Rattle.std.proofs.Common.{[], ◌∷◌, map, ap, ◌∙◌}
use Rattle.xfs_model.specs.Connections.{is_at, with_mail}
use Rattle.xfs_traffic.proofs.answering.mail.Goals as goal

pub returns-in-Ok-clause-ok : goal.returns-in-Ok-clause-ok
returns-in-Ok-clause-ok c =
    rw c.in-Some.is (c.in-Ok.ensures.ok ∙ ap (map (λ k. with_mail (is_at c.args.service c.args.client k) (c.args.last ∷ []) k)) (rw c.list.ensures at c.in_ok-announce.ensures.ok))

pub returns-clause-err : goal.returns-clause-err
returns-clause-err c = c.take_back.ensures c.args.connections.now c.in-Some.frame (c.in-Err.ensures.err ∙ (rw c.list.ensures at c.in_ok-announce.ensures.ok))
