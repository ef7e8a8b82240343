use Rattle.std.proofs.Common.{◌≡◌, position, Some, None, sym, ◌∙◌}
use Rattle.xfs_model.specs.Connections.{is_client}
use Rattle.xfs_traffic.proofs.Places.{fetched_at, fetched_none, handed_at, handed_none}
use Rattle.xfs_traffic.proofs.connections.Connections.fetch.Goals as goal

pub returns-in-Some-clause-handed : goal.returns-in-Some-clause-handed
returns-in-Some-clause-handed c =
    let ks = c.self.inside.list.items in
    let e : position (is_client c.args.client) ks ≡ Some c.in-Some.at = rw (← c.deref.ensures.value) (sym c.index_of.ensures ∙ c.in-Some.is) in
    rw (← c.self.view_is) (handed_at c.args.client ks c.in-Some.at c.index_mut.result.now c.fetch.result.items e c.index_mut.ensures.value c.fetch.ensures.handed)

pub returns-in-Some-clause-rest : goal.returns-in-Some-clause-rest
returns-in-Some-clause-rest c =
    let ks = c.self.inside.list.items in
    let e : position (is_client c.args.client) ks ≡ Some c.in-Some.at = rw (← c.deref.ensures.value) (sym c.index_of.ensures ∙ c.in-Some.is) in
    rw (← c.self.view_is, c.fetch.ensures.rest) (fetched_at c.args.client ks c.in-Some.at c.index_mut.result.now c.self.invariant e c.index_mut.ensures.value)

pub returns-in-None-clause-handed : goal.returns-in-None-clause-handed
returns-in-None-clause-handed c =
    let ks = c.self.inside.list.items in
    let e : position (is_client c.args.client) ks ≡ None = rw (← c.deref.ensures.value) (sym c.index_of.ensures ∙ c.in-None.is) in
    rw (← c.self.view_is) (handed_none c.args.client ks c.new.result.items e c.new.ensures.items)

pub returns-in-None-clause-rest : goal.returns-in-None-clause-rest
returns-in-None-clause-rest c =
    let ks = c.self.inside.list.items in
    let e : position (is_client c.args.client) ks ≡ None = rw (← c.deref.ensures.value) (sym c.index_of.ensures ∙ c.in-None.is) in
    rw (← c.self.view_is) (fetched_none c.args.client ks e)
