use Rattle.std.proofs.Common.{◌≡◌, position, Some, None, sym, ◌∙◌}
use Rattle.xfs_model.specs.Connections.{is_at}
use Rattle.xfs_traffic.proofs.Unsent.{unmailed_at, unmailed_none}
use Rattle.xfs_traffic.proofs.connections.Connections.unsend.Goals as goal

pub returns-in-Some : goal.returns-in-Some
returns-in-Some c = λ before frame e.
    let ks = c.self.inside.list.items in
    let there : position (is_at c.args.service c.args.client) ks ≡ Some c.in-Some.at = rw (← c.deref.ensures.value) (sym c.place.ensures ∙ c.in-Some.is) in
    rw c.unmail.ensures (unmailed_at c.args.service c.args.client ks c.in-Some.at c.index_mut.result.now c.self.invariant there c.index_mut.ensures.value before frame (c.self.view_is ∙ e))

pub returns-in_default : goal.returns-in_default
returns-in_default c = λ before frame e.
    let ks = c.self.inside.list.items in
    let none : position (is_at c.args.service c.args.client) ks ≡ None = rw (← c.deref.ensures.value) (sym c.place.ensures ∙ c.in_default.is) in
    sym c.self.view_is ∙ unmailed_none c.args.service c.args.client ks none before frame (c.self.view_is ∙ e)
