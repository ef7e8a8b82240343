use Rattle.std.proofs.Common.{◌≡◌, position, Some, None, [], ◌∷◌, sym, ◌∙◌}
use Rattle.std.proofs.lemmas.Result.{on_ok_weaker}
use Rattle.xfs_model.specs.Connections.{is_at}
use Rattle.xfs_traffic.proofs.Places.{mailed_at, mailed_none}
use Rattle.xfs_traffic.proofs.connections.Connections.send_two.Goals as goal

pub returns-in-Some-clause-ok : goal.returns-in-Some-clause-ok
returns-in-Some-clause-ok c =
    let ks = c.self.inside.list.items in
    let e : position (is_at c.args.service c.args.client) ks ≡ Some c.in-Some.at = rw (← c.deref.ensures.value) (sym c.place.ensures ∙ c.in-Some.is) in
    rw (← c.self.view_is) (on_ok_weaker c.mail_two.result (λ mailed. rw mailed (mailed_at c.args.service c.args.client (c.args.first ∷ c.args.last ∷ []) ks c.in-Some.at c.index_mut.result.now c.self.invariant e c.index_mut.ensures.value)) c.mail_two.ensures.ok)

pub returns-in-None-clause-ok : goal.returns-in-None-clause-ok
returns-in-None-clause-ok c =
    let ks = c.self.inside.list.items in
    let e : position (is_at c.args.service c.args.client) ks ≡ None = rw (← c.deref.ensures.value) (sym c.place.ensures ∙ c.in-None.is) in
    rw (← c.self.view_is) (mailed_none c.args.service c.args.client (c.args.first ∷ c.args.last ∷ []) ks e)
