use Rattle.std.proofs.Common.{rules, not}
use Rattle.std.proofs.lemmas.Fn.{filter_same}
use Rattle.xfs_model.specs.Connections.{is_client}
use Rattle.xfs_traffic.proofs.Places.{rising_kept}
use Rattle.xfs_traffic.proofs.connections.Connections.remove.Goals as goal

pub invariant_of-self : goal.invariant_of-self
invariant_of-self c =
    let kept = filter_same _ (λ k. not (is_client c.args.client k)) _ (λ x b h k. search rules) c.self.inside.list.items c.retain.new.self.items c.retain.ensures.filtered in
    rw kept (rising_kept (λ k. not (is_client c.args.client k)) c.self.inside.list.items c.self.invariant)

pub returns : goal.returns
returns c =
    let kept = filter_same _ (λ k. not (is_client c.args.client k)) _ (λ x b h k. search rules) c.self.inside.list.items c.retain.new.self.items c.retain.ensures.filtered in
    rw (← c.self.view_is) kept
