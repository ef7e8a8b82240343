use Rattle.std.proofs.Common.{map, ap, sym, ◌∙◌}
use Rattle.xfs_traffic.proofs.Changed.{all_stopped, fewer, none_of, pending_found, stops_on}
use Rattle.xfs_traffic.proofs.queues.stop.Goals as goal
use Rattle.xfs_model.specs.Immediate as model
use Rattle.xfs_queue.specs.Commands.{ticket_of}

pub set_result-requires : goal.set_result-requires
set_result-requires c = pending_found c.loop-ticket.queue c.in-Some.ticket (sym c.stopped.ensures.found ∙ c.in-Some.is)

pub loop-ticket-preserved : goal.loop-ticket-preserved
loop-ticket-preserved c = stops_on c.loop-ticket.queue c.set_result.new.queue c.in-Some.ticket c.stopped.ensures.valid.ids (sym c.stopped.ensures.found ∙ c.in-Some.is) (rw (c.new.ensures, c.nothing.ensures) at c.set_result.ensures) ∙ c.loop-ticket.invariant

pub loop-ticket-smaller : goal.loop-ticket-smaller
loop-ticket-smaller c = fewer _ c.loop-ticket.queue c.set_result.new.queue c.in-Some.ticket (sym c.stopped.ensures.found ∙ c.in-Some.is) c.set_result.ensures

pub returns : goal.returns
returns c = sym (all_stopped c.loop-ticket.queue (none_of ticket_of _ (sym c.stopped.ensures.found ∙ c.in_default.is))) ∙ c.loop-ticket.invariant ∙ ap (map model.stop) c.cancel.ensures.marked
