use Rattle.std.proofs.Common.{rules, not, ◌==◌}
use Rattle.std.proofs.lemmas.Fn.{filter_same}
use Rattle.std.proofs.lemmas.List.Kept.{IsNonDecreasingBy-filter}
use Rattle.xfs_queue.specs.declared.deadlines.Entry.{Entry}
use Rattle.xfs_queue.proofs.deadlines.Deadlines.remove_client.Goals as goal

pub invariant_of-self : goal.invariant_of-self
invariant_of-self c =
    let kept = filter_same _ (λ (e : Entry). not (e.ticket.client.0 == c.args.client.0)) _ (λ x b g k. search rules) _ _ c.retain.ensures.filtered in
    rw kept (IsNonDecreasingBy-filter (λ (e : Entry). e.deadline) _ _ c.self.invariant)

pub returns : goal.returns
returns c =
    rw (← c.self.view_is) (filter_same _ (λ (e : Entry). not (e.ticket.client.0 == c.args.client.0)) _ (λ x b g k. search rules) _ _ c.retain.ensures.filtered)
