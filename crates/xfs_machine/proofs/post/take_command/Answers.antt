use Rattle.std.proofs.Common.{◌≡◌, false, sym, ◌∙◌}
use Rattle.std.proofs.lemmas.Result.{on_ok_weaker}
use Rattle.xfs_conversation.specs.Pending.{is_wrong_id}
use Rattle.xfs_envelope.specs.Commands.{said}
use Rattle.xfs_model.specs.Pendings.{pending_in}
use Rattle.xfs_model.specs.State.{queue_of}
use Rattle.xfs_queue.specs.Queue.{offer_fault}
use Rattle.xfs_machine.proofs.Posting.{accepted, crowded, is_full, is_roomy, misnumbered}
use Rattle.xfs_machine.proofs.post.take_command.Goals as goal

pub returns-then-is_wrong_id-clause-ok : goal.returns-then-is_wrong_id-clause-ok
returns-then-is_wrong_id-clause-ok g c = on_ok_weaker c.refuse.result (λ refused s k seen guard.
    misnumbered s k c.args.sender seen.client seen.service (said c.args.command) c.args.traffic.now c.refuse.new.connections
    (sym (c.is_wrong_id.ensures (queue_of c.args.traffic.now.queues c.args.sender.service) c.args.sender.client (rw (c.at.ensures) at c.fault_of-fault.ensures)) ∙ c.if-is_wrong_id.true) refused) c.refuse.ensures.ok

pub returns-in-Some-fault-clause-ok : goal.returns-in-Some-fault-clause-ok
returns-in-Some-fault-clause-ok g c =
    let q = queue_of c.args.traffic.now.queues c.args.sender.service in
    let at : c.fault_of-fault.result ≡ offer_fault q c.args.sender.client c.args.command.id = rw (c.at.ensures) at c.fault_of-fault.ensures in
    let right : is_wrong_id (pending_in c.args.sender.client q) c.args.command.id ≡ false = sym (c.is_wrong_id.ensures q c.args.sender.client at) ∙ c.if-is_wrong_id.false in
    on_ok_weaker c.refuse-in-Some-fault.result (λ refused s k seen guard.
    crowded s k c.args.sender seen.client seen.service (said c.args.command) c.in-Some.known c.args.traffic.now c.refuse-in-Some-fault.new.connections
    right (rw (c.as_str.ensures.text) at (sym c.known_of.ensures ∙ c.in-Some.is))
    (is_full q c.args.sender.client c.args.command.id right c.in-Some-fault.field-0 (sym at ∙ c.in-Some-fault.is)) refused) c.refuse-in-Some-fault.ensures.ok

pub returns-in-None-clause-ok : goal.returns-in-None-clause-ok
returns-in-None-clause-ok g c =
    let q = queue_of c.args.traffic.now.queues c.args.sender.service in
    let at : c.fault_of-fault.result ≡ offer_fault q c.args.sender.client c.args.command.id = rw (c.at.ensures) at c.fault_of-fault.ensures in
    let right : is_wrong_id (pending_in c.args.sender.client q) c.args.command.id ≡ false = sym (c.is_wrong_id.ensures q c.args.sender.client at) ∙ c.if-is_wrong_id.false in
    on_ok_weaker c.accept.result (λ takes s k seen guard.
    accepted s k c.args.sender seen.client seen.service (said c.args.command) c.in-Some.known c.args.traffic.now c.accept.new.traffic
    right (rw (c.as_str.ensures.text) at (sym c.known_of.ensures ∙ c.in-Some.is))
    (is_roomy q c.args.sender.client c.args.command.id right (sym at ∙ c.in-None.is)) (takes s k seen)) c.accept.ensures.ok
