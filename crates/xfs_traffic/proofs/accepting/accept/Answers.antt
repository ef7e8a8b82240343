use Rattle.std.proofs.Common.{refl, ◌∙◌}
use Rattle.xfs_envelope.specs.Commands.{said}
use Rattle.xfs_traffic.specs.Jobs.{ask_seen}
use Rattle.xfs_traffic.proofs.AcceptLaws.{accepts, unheld}
use Rattle.xfs_traffic.proofs.Withdrawn.{is_taken_in, withdrawn}
use Rattle.xfs_traffic.proofs.accepting.accept.Goals as goal
use Rattle.xfs_model.specs.State.{queue_of}

pub returns-in-Ok-clause-ok : goal.returns-in-Ok-clause-ok
returns-in-Ok-clause-ok c = λ s k seen.
    accepts s k c.args.sender seen.client seen.service c.args.now seen.now_is (said c.args.command) c.args.known (ask_seen c.in_ok-ask.ask) c.in_ok-reply.reply
    c.args.traffic.now (record { connections = c.send.new.self; queues = c.offer.new.self }) c.in_ok-reply.ensures c.in_ok-ask.ensures c.in-Ok.ensures.ok (rw (c.new-job.ensures, c.line_of.ensures) at c.in_ok-offer.ensures.ok)

pub remove-requires : goal.remove-requires
remove-requires c = is_taken_in c.args.traffic.now.queues c.offer.new.self c.args.sender.service _ c.in_ok-offer.ensures.ok

pub returns-clause-err : goal.returns-clause-err
returns-clause-err c =
    let back = c.remove.ensures ∙ withdrawn c.args.traffic.now.queues c.offer.new.self c.args.sender.service _ (unheld (queue_of c.args.traffic.now.queues c.args.sender.service) c.args.sender.client c.args.command.id c.requires.free) c.in_ok-offer.ensures.ok in
    rw (c.in-Err.ensures.err, back) refl
